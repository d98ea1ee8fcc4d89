-- Soundness rules something out: a book whose reserved cover is a cent off is not sound, nor is one in which nothing was returned of a
-- returned order, or a cent more than its amount, or in which an order was settled a second before it came, or a second after the clock,
-- or in which two orders share payer and TxId. Assumes nothing.
use mathlib.Core.Path.{◌≡◌}
use mathlib.Core.List.{[], ◌∷◌}
use Prim.Native.Nat.{ℕ}
use native.Mathlib.Omega.{arith}
use Rattle.codes.specs.Bic.{is_bic}
use Rattle.dayfile.specs.DayFile.{day_file}
use Rattle.dayfile.specs.FileWriting.{file_bytes, bank}
use lib.ListN.{set}
use Rattle.fields.specs.Text.{padded}
use Rattle.fields.proofs.Tests.{never}
use Rattle.rules.specs.Book.{order_of, with_covers, book_of}
use Rattle.rules.specs.Cover.{transferred}
use Rattle.rules.specs.Decision.{by}
use Rattle.rules.specs.Sound.{Sound}
use Rattle.rules.specs.declared.decision.Move.TheVariants.{Give, Reserve}
use Rattle.rules.specs.declared.Recall.TheVariants.{None}
use Rattle.rules.specs.declared.Status.{Status}
use Rattle.rules.specs.declared.Status.TheVariants.{Refused, Returned, Settled}
use Rattle.rules.specs.declared.Book.{Book}
use Rattle.rules.proofs.Names.{bic_a, tx1}

-- one participant, a cent reserved and no order
abbrev cent_off : Book
cent_off =
    let b = book_of (file_bytes (bank bic_a ∷ []) [] []) in
    with_covers b (transferred (by 0 Reserve 1) (transferred (by 0 Give 1) b.covers))

pub cent-off-not-sound : Sound cent_off → ⊥
unfolding is_bic day_file
cent-off-not-sound s = let e : ◌≡◌ {A = ℕ} 1 0 = s.covers.reserved 0 (omega arith) in omega arith

-- one participant, and at 30 an order of 400 at 5 to itself, with a status
abbrev having : Status → Book
having s =
    let b = book_of (file_bytes (bank bic_a ∷ []) [] []) in
    record {
      clock = 30;
      covers = b.covers;
      orders = set b.orders 0 (record { txid = padded 35 tx1; payer = 0; payee = 0; amount = 400; time = 5; status = s });
      count = 1;
      roster = b.roster;
    }

pub nothing-returned-not-sound : Sound (having (Returned 24 0)) → ⊥
unfolding is_bic day_file
nothing-returned-not-sound s = let e = (s.orders.status 0 (omega arith)).2 in omega arith

pub too-much-returned-not-sound : Sound (having (Returned 24 401)) → ⊥
unfolding is_bic day_file
too-much-returned-not-sound s = let e = (s.orders.status 0 (omega arith)).3 in omega arith

pub settled-before-it-came-not-sound : Sound (having (Settled None 4)) → ⊥
unfolding is_bic day_file
settled-before-it-came-not-sound s = let e = (s.orders.status 0 (omega arith)).0 in omega arith

pub settled-after-the-clock-not-sound : Sound (having (Settled None 31)) → ⊥
unfolding is_bic day_file
settled-after-the-clock-not-sound s = let e = (s.orders.status 0 (omega arith)).1 in omega arith

pub returned-and-settled-before-it-came-not-sound : Sound (having (Returned 4 400)) → ⊥
unfolding is_bic day_file
returned-and-settled-before-it-came-not-sound s = let e = (s.orders.status 0 (omega arith)).0 in omega arith

pub returned-and-settled-after-the-clock-not-sound : Sound (having (Returned 31 400)) → ⊥
unfolding is_bic day_file
returned-and-settled-after-the-clock-not-sound s = let e = (s.orders.status 0 (omega arith)).1 in omega arith

-- 02, slip 6: the same payer's order with one TxId twice
abbrev twice : Book
twice =
    let b = having Refused in
    record { clock = 30; covers = b.covers; orders = set b.orders 1 (order_of b.orders 0); count = 2; roster = b.roster }

pub shared-key-not-sound : Sound twice → ⊥
unfolding is_bic day_file
shared-key-not-sound s = never (s.orders.distinct 0 1 (omega arith) (omega arith))

-- What `Held` holds of a list of digits: the groups of seven carried and counted, and the digits behind them. Assumes nothing.
use mathlib.Core.Path.{◌≡◌, refl, sym, ◌∙◌, ap}
use mathlib.Core.Bool.{Bool, true, false}
use mathlib.Core.List.{List, [], ◌++◌}
use Prim.Native.Nat.{ℕ, suc, ◌+◌, ◌-◌, ◌*◌, ◌/◌, ◌%◌, ◌^◌, ◌≤◌, ◌<◌}
use native.Mathlib.Omega.{arith}
use native.Mathlib.Numerals.{add-one}
use borrow.Author.Tests.{ltb-true, ltb-false, eqb-true, eqb-false, lt-ltb, le-ltb}
use lib.Dec.{ltb, eqb}
use lib.ListN.{length, take, drop, length-append, length-drop}
use lib.Seq.{take_all, length-take-le, drop-append-le}
use Rattle.remainder.specs.Held.{Fitting, nothing_held, joined, divided_at}
use Rattle.remainder.specs.declared.Held.{Held}
use Rattle.remainder.specs.declared.Divided.{Divided}
use Rattle.iban.specs.Iban.{read_decimal}
use Rattle.iban.specs.Groups.{sevens, carried_over, over_groups, group_count}
use Rattle.iban.proofs.SpeltNumber.{read_decimal-append}
use Rattle.iban.proofs.DecimalDigits.{Decimal, decimal-drop, number-below, first_read, left-read}
use Rattle.iban.proofs.Sevens.{sevens-append, carried-more, carried-below, seven-made, behind-seven}

-- of all digits those in whole groups are carried and counted, and those behind them are held
pub record Holds (h : Held) (ds : List ℕ) : Type 0 where
  pub groups : h.groups ≡ length ds / 7
  pub digits : h.digits ≡ length ds % 7
  pub carried : h.carried ≡ carried_over 0 (sevens (length ds / 7) ds)
  pub number : h.number ≡ read_decimal (drop (7 * (length ds / 7)) ds)

pub nothing-holds : Holds nothing_held []
nothing-holds = record { groups = refl; digits = refl; carried = refl; number = refl }

module _ (h : Held) (ds : List ℕ) (held : Holds h ds) where
  abbrev whole : ℕ
  whole = length ds / 7

  abbrev last : List ℕ
  last = drop (7 * whole) ds

  last-length : length last ≡ h.digits
  last-length = length-drop (7 * whole) ds ∙ (let e = held.digits in omega arith)

  pub holds_fits : Decimal ds → length ds ≤ 69 → Fitting h
  holds_fits decimal few =
      record {
        carried = rw held.carried (carried-below 0 (sevens whole ds) (omega arith));
        groups = rw held.groups (omega arith);
        number = rw (held.number, ← last-length) (number-below last (decimal-drop (7 * whole) ds decimal));
        digits = rw held.digits (omega arith);
      }

  -- the digits held are one group more, unless there are none
  none-held : h.digits ≡ 0 → group_count ds ≡ whole
  none-held e = let d = held.digits in omega arith

  some-held : (h.digits ≡ 0 → ⊥) → group_count ds ≡ suc whole
  some-held some = let d = held.digits in omega arith

  last-carried : (h.carried * 10 ^ h.digits + h.number) % 97 ≡ carried_over 0 (sevens (suc whole) ds)
  last-carried =
      rw (held.carried, held.number, ← last-length)
      (sym (carried-more 0 whole ds last (take_all 7 last (rw (last-length, held.digits) (omega arith)))))

  ended : divided_at h ≡ record { remainder = over_groups ds; groups = group_count ds }
  ended = go (eqb h.digits 0) refl
    where
      go : (b : Bool) → eqb h.digits 0 ≡ b → divided_at h ≡ record { remainder = over_groups ds; groups = group_count ds }
      go true e = rw (e, none-held (eqb-true h.digits 0 e), held.carried, held.groups) refl
      go false e = rw (e, some-held (eqb-false h.digits 0 e), last-carried, held.groups, add-one) refl

  pub end-remainder : (divided_at h).remainder ≡ over_groups ds
  end-remainder = ap (λ (r : Divided). r.remainder) ended

  pub end-groups : (divided_at h).groups ≡ group_count ds
  end-groups = ap (λ (r : Divided). r.groups) ended

  module _ (es : List ℕ) where
    kept-carried : carried_over 0 (sevens whole (ds ++ es)) ≡ h.carried
    kept-carried = ap (carried_over 0) (sevens-append whole ds es (omega arith)) ∙ sym held.carried

    -- fewer than seven
    module _ (few : h.digits + length es < 7) where
      same_whole : length (ds ++ es) / 7 ≡ whole
      same_whole = let d = held.digits in rw length-append (omega arith)

      fewer-hold : Holds (joined h (read_decimal es) (length es)) (ds ++ es)
      fewer-hold =
          let d = held.digits in
          rw (lt-ltb (h.digits + length es) 7 few)
          (record {
            groups = held.groups ∙ sym same_whole;
            digits = rw length-append (omega arith);
            carried = rw same_whole (sym kept-carried);
            number = rw (same_whole, drop-append-le (7 * whole) ds es (omega arith), read_decimal-append, held.number) refl;
          })

    -- seven or more: the first i of es make a group whole, the rest is left
    module _ (decimal : Decimal es) (most : length es ≤ 7) (seven : 7 ≤ h.digits + length es) where
      abbrev rest : ℕ
      rest = h.digits + length es - 7

      abbrev i : ℕ
      i = length es - rest

      one_more : length (ds ++ es) / 7 ≡ suc whole
      one_more = let d = held.digits in rw length-append (omega arith)

      made : length last + i ≡ 7
      made = let d = held.digits in omega (arith, last-length)

      parts : i + rest ≡ length es
      parts = let d = held.digits in omega arith

      abbrev group : List ℕ
      group = last ++ take i es

      first-long : length (take i es) ≡ i
      first-long = length-take-le i es (omega arith)

      group-long : length group ≡ 7
      group-long = length-append last (take i es) ∙ ap (λ (k : ℕ). length last + k) first-long ∙ made

      group-read : read_decimal group ≡ h.number * 10 ^ i + read_decimal es / 10 ^ rest
      group-read = rw (read_decimal-append, first-long, first_read es i rest decimal parts, held.number) refl

      group-carried : carried_over 0 (sevens (suc whole) (ds ++ es))
          ≡ (h.carried * 10 ^ 7 + (h.number * 10 ^ i + read_decimal es / 10 ^ rest)) % 97
      group-carried =
          carried-more 0 whole (ds ++ es) group (seven-made whole i ds es (omega arith) made)
          ∙ rw (kept-carried, group-long, group-read) refl

      taken-hold : Holds (joined h (read_decimal es) (length es)) (ds ++ es)
      taken-hold =
          let d = held.digits in
          rw (le-ltb (h.digits + length es) 7 seven)
          (record {
            groups = rw (one_more, held.groups, add-one) refl;
            digits = rw length-append (omega arith);
            carried = rw one_more (sym group-carried);
            number = rw (one_more, behind-seven whole i ds es (omega arith) made) (left-read es i rest decimal parts);
          })

pub put_holds : (h : Held) (ds es : List ℕ) (n d : ℕ) → Holds h ds → Decimal es → d ≡ length es → n ≡ read_decimal es → d ≤ 7
    → Holds (joined h n d) (ds ++ es)
put_holds h ds es n d held decimal ed en most = rw (ed, en) (go (ltb (h.digits + length es) 7) refl)
  where
    go : (b : Bool) → ltb (h.digits + length es) 7 ≡ b → Holds (joined h (read_decimal es) (length es)) (ds ++ es)
    go true e = fewer-hold h ds held es (ltb-true (h.digits + length es) 7 e)
    go false e = taken-hold h ds held es decimal (omega arith) (ltb-false (h.digits + length es) 7 e)

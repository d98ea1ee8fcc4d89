-- A ticket from its sight to its verdict. Assumes nothing.
--     kept-total      all cover, as it is kept
--     facts-as        the facts, as they are put together
--     seen_sought     what is seen of a ticket that is read is what is sought for it once orders have expired
--     taken           it is taken up; passed-by: and the expiries for it are done
use Rattle.std.specs.Prelude.{◌≡◌, ℕ, Bool, false, cond, List, Option}
use mathlib.Core.Path.{refl, sym, ◌∙◌, ap}
use Rattle.fields.specs.Search.{number_of}
use Rattle.dayfile.specs.FileLimits.{most_participants}
use Rattle.dayfile.specs.Route.{followed_from}
use Rattle.dayfile.specs.declared.route.Way.{Way}
use Rattle.rules.specs.Book.{order_of, cover_of, is_bank}
use Rattle.rules.specs.Cover.{total_of, total}
use Rattle.rules.specs.Find.{any_open}
use Rattle.rules.specs.Sound.{Sound}
use Rattle.rules.specs.Terms.{terms_of}
use Rattle.rules.specs.declared.Book.{Book}
use Rattle.rules.specs.declared.verdict.Facts.{Facts}
use Rattle.course.specs.Seeking.{seeks_open}
use Rattle.course.proofs.Summing.{all-total}
use Rattle.verdict.specs.Meaning.{about_of}
use Rattle.sight.specs.declared.Seen.{Seen}
use Rattle.turns.specs.Facts.{Sought, facts_by}
use Rattle.turns.specs.Turn.{swept_at, TakenUp, Expired}
use Rattle.turns.proofs.CarryingOut.{all-is}
use Rattle.turns.proofs.Facts.{sought-after}
use Rattle.engine.specs.Turns.{entry_by}
use Rattle.engine.proofs.SeenEntry.{Sighted}

pub seen_sought : {b : Book} {t : List ℕ} {s : Seen} {c : Book} → Expired b t (entry_by s) c → Sighted b t s → {way : Option Way}
    → way ≡ followed_from c.roster s.route → Sought c t (entry_by s) s.sender s.order s.route way
seen_sought {s = s} w h is =
    let f = sought-after w (record { sends = h.sends; names = h.names; leads = h.leads; follows = refl }) in
    record { sends = f.sends; names = f.names; leads = f.leads; follows = is }

-- all cover, as it is kept and as the rules have it
pub kept-total : (b : Book) → Sound b → {all : ℕ} → all ≡ total_of most_participants b.covers → all ≡ total b
kept-total b s sum = sum ∙ sym (all-is b.covers) ∙ all-total b s

-- the facts, as they are put together
pub facts-as : (b : Book) (s : Seen) (way : Option Way) {p i : ℕ} {bank unconfirmed : Bool} {all : ℕ} → p ≡ number_of s.sender
    → i ≡ number_of s.order → bank ≡ is_bank b.roster (order_of b.orders i).payee
    → unconfirmed ≡ cond (seeks_open (terms_of s.kind).flow) (any_open b) false → all ≡ total b
    → ◌≡◌ {A = Facts}
    (record {
      kind = s.kind;
      amount = s.amount;
      clock = b.clock;
      sender = s.sender;
      cover = cover_of b.covers p;
      order = s.order;
      about = about_of (order_of b.orders i);
      bank = bank;
      route = s.route;
      way = way;
      count = b.count;
      unconfirmed = unconfirmed;
      total = all;
    }) (facts_by b (entry_by s) s.sender s.order s.route way)
facts-as b s way is-p is-i is-bank opens sum =
    λ j. record {
      kind = s.kind;
      amount = s.amount;
      clock = b.clock;
      sender = s.sender;
      cover = cover_of b.covers (is-p j);
      order = s.order;
      about = about_of (order_of b.orders (is-i j));
      bank = (is-bank ∙ ap (λ (k : ℕ). is_bank b.roster (order_of b.orders k).payee) is-i) j;
      route = s.route;
      way = way;
      count = b.count;
      unconfirmed = opens j;
      total = sum j;
    }

-- it is taken up, and the expiries for it are done
pub taken : {b : Book} {t : List ℕ} {s : Seen} → Sound b → Sighted b t s → TakenUp b t (entry_by s)
taken sound h = record { sound = sound; is = h.is; passes = refl }

pub passed-by : {b : Book} {t : List ℕ} {s : Seen} {c : Book} → Sound b → Sighted b t s → c ≡ (swept_at b s.time).book
    → Expired b t (entry_by s) c
passed-by sound h book = record { taken = taken sound h; book = book }

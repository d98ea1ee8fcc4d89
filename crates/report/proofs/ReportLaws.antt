-- The laws of reports in a buffer: written field by field, kept before and after, laid down one more, and read back.
-- Assumes nothing.
use mathlib.Core.Path.{◌≡◌, refl, sym, ◌∙◌, ap, ap₂}
use mathlib.Core.List.{List, [], ◌∷◌, ◌++◌, map, append-nil}
use Prim.Native.Nat.{ℕ, zero, suc, ◌+◌, ◌*◌, ◌≤◌, ◌<◌}
use native.Mathlib.Nat.{add-zero, not-suc-le-zero}
use native.Mathlib.Numerals.{add-one, add-two, add-four}
use native.Mathlib.Omega.{arith}
use lib.ListN.{length, get_or, set, drop, length-append}
use lib.Seq.{sets, get_or-take, get_or-drop}
use Rattle.fields.specs.Number.{part, number, bytes_of}
use Rattle.fields.specs.Text.{joined}
use Rattle.fields.proofs.Stores.{sets-append, part-part}
use Rattle.fields.proofs.BigEndian.{reads-back}
use Rattle.fields.proofs.Holding.{HoldsAt, held-part}
use Rattle.fields.proofs.Laid.{sets_behind, laid-length, length-rows-laid, row-held}
use Rattle.report.specs.ReportLayout.{report_bytes, report_at, reports_bytes, reports_of, laid, FittingReport, AllFitting}
use Rattle.report.specs.declared.Report.{Report}

pub field-by-field : (s : List ℕ) (at : ℕ) (r : Report)
    → sets (sets (set (set s at r.to) (at + 1) r.code) (at + 2) (bytes_of 2 r.order)) (at + 4) (bytes_of 8 r.amount)
    ≡ sets s at (report_bytes r)
field-by-field s at r = simp (add-one, add-two, add-four)

-- a report's own bytes read back
own-bytes : (r : Report) → FittingReport r → (t : List ℕ) → report_at (report_bytes r ++ t) 0 ≡ r
own-bytes r f t =
    ap₂ (λ (o a : ℕ). record { to = r.to; code = r.code; order = o; amount = a }) (reads-back 2 r.order f.order)
    (reads-back 8 r.amount f.amount)

-- report n is the report that its 12 bytes are
in_place : (s : List ℕ) (n : ℕ) → report_at (part 12 (12 * n) s) 0 ≡ report_at s n
in_place s n =
    λ i. record {
      to = (byte 0 (omega arith) ∙ ap (λ (k : ℕ). get_or s k 0) (add-zero (12 * n))) i;
      code = byte 1 (omega arith) i;
      order = number (part-part 2 2 12 (12 * n) 8 s refl i);
      amount = number (part-part 8 4 12 (12 * n) 0 s refl i);
    }
  where
    byte : (k : ℕ) → k < 12 → get_or (part 12 (12 * n) s) k 0 ≡ get_or s (12 * n + k) 0
    byte k h = get_or-take 12 (drop (12 * n) s) k 0 h ∙ get_or-drop (12 * n) s k 0

fitting-at : (rs : List Report) (i : ℕ) (d : Report) → AllFitting rs → i < length rs → FittingReport (get_or rs i d)
fitting-at [] i d f h = absurd (not-suc-le-zero h)
fitting-at (r ∷ rs) zero d f h = f.0
fitting-at (r ∷ rs) (suc i) d f h = fitting-at rs i d f.1 (omega arith)

report-width : (r : Report) → length (report_bytes r) ≡ 12
report-width r = refl

-- reports one after the other are rows of bytes
reports-joined : (rs : List Report) → reports_bytes rs ≡ joined (map report_bytes rs)
reports-joined [] = refl
reports-joined (r ∷ rs) = ap (λ (t : List ℕ). report_bytes r ++ t) (reports-joined rs)

length-reports : (rs : List Report) → length (reports_bytes rs) ≡ 12 * length rs
length-reports rs = ap length (reports-joined rs) ∙ laid-length 12 report_bytes report-width rs

reports-append : (rs ts : List Report) → reports_bytes (rs ++ ts) ≡ reports_bytes rs ++ reports_bytes ts
reports-append [] ts = refl
reports-append (r ∷ rs) ts = ap (λ (t : List ℕ). report_bytes r ++ t) (reports-append rs ts)

-- laying down keeps the buffer's length
pub length-laid : (rs : List Report) (s : List ℕ) → 12 * length rs ≤ length s → length (laid rs s) ≡ length s
length-laid rs s h = rw (reports-joined rs) (length-rows-laid 12 report_bytes report-width rs s h)

-- reports behind n reports, and more of them behind those
pub put-further : (s : List ℕ) (n : ℕ) (rs more : List Report)
    → sets (sets s (12 * n) (reports_bytes rs)) (12 * (n + length rs)) (reports_bytes more) ≡ sets s (12 * n) (reports_bytes (rs ++ more))
put-further s n rs more =
    let e = length-reports rs in
    let place : 12 * (n + length rs) ≡ 12 * n + length (reports_bytes rs) = omega arith in
    ap (λ (k : ℕ). sets (sets s (12 * n) (reports_bytes rs)) k (reports_bytes more)) place
    ∙ sym (sets-append s (12 * n) (reports_bytes rs) (reports_bytes more))
    ∙ ap (sets s (12 * n)) (sym (reports-append rs more))

-- one report, and two, as a list
pub put_one : (s : List ℕ) (at : ℕ) (r : Report) → sets s at (report_bytes r) ≡ sets s at (reports_bytes (r ∷ []))
put_one s at r = ap (sets s at) (sym (append-nil (report_bytes r)))

pub put_two : (s : List ℕ) (n : ℕ) (r t : Report)
    → sets (sets s (12 * n) (report_bytes r)) (12 * (n + 1)) (report_bytes t) ≡ sets s (12 * n) (reports_bytes (r ∷ t ∷ []))
put_two s n r t =
    put_one (sets s (12 * n) (report_bytes r)) (12 * (n + 1)) t
    ∙ ap (λ (b : List ℕ). sets b (12 * (n + 1)) (reports_bytes (t ∷ []))) (put_one s (12 * n) r)
    ∙ put-further s n (r ∷ []) (t ∷ [])

-- more reports behind those laid down
laid-further : (rs more : List Report) (s : List ℕ) → 12 * length rs + 12 * length more ≤ length s
    → sets (laid rs s) (12 * length rs) (reports_bytes more) ≡ laid (rs ++ more) s
laid-further rs more s h =
    sets_behind (reports_bytes rs) (reports_bytes more) s (12 * length rs) (12 * length (rs ++ more)) (length-reports rs)
    (ap length (sym (reports-append rs more)) ∙ length-reports (rs ++ more)) (rw (length-append rs more) (omega arith))
    ∙ ap (λ (t : List ℕ). t ++ drop (12 * length (rs ++ more)) s) (sym (reports-append rs more))

pub laid-further-at : (rs more : List Report) (s : List ℕ) (n : ℕ) → n ≡ length rs → 12 * n + 12 * length more ≤ length s
    → sets (laid rs s) (12 * n) (reports_bytes more) ≡ laid (rs ++ more) s
laid-further-at rs more s n e h = ap (λ (m : ℕ). sets (laid rs s) (12 * m) (reports_bytes more)) e ∙ laid-further rs more s (omega arith)

-- report i of those laid down
pub report-laid : (rs : List Report) (s : List ℕ) (i : ℕ) (d : Report) → AllFitting rs → i < length rs
    → report_at (laid rs s) i ≡ get_or rs i d
report-laid rs s i d f h =
    sym (in_place (laid rs s) i)
    ∙ ap (λ (t : List ℕ). report_at t 0) (held-part 12 (12 * i) held refl ∙ sym (append-nil (report_bytes (get_or rs i d))))
    ∙ own-bytes (get_or rs i d) (fitting-at rs i d f h) []
  where
    held : HoldsAt (laid rs s) (12 * i) (report_bytes (get_or rs i d))
    held = rw (reports-joined rs) (row-held 12 report_bytes report-width rs (drop (12 * length rs) s) i d h)

-- a list of reports laid down one after the other is that list read back
pub reports-read-back : (rs : List Report) (t : List ℕ) → AllFitting rs → reports_of (length rs) (reports_bytes rs ++ t) ≡ rs
reports-read-back [] t f = refl
reports-read-back (r ∷ rs) t f = ap₂ ◌∷◌ (own-bytes r f.0 (reports_bytes rs ++ t)) (reports-read-back rs t f.1)

pub laid-reads-back : (rs : List Report) (s : List ℕ) → AllFitting rs → reports_of (length rs) (laid rs s) ≡ rs
laid-reads-back rs s f = reports-read-back rs (drop (12 * length rs) s) f

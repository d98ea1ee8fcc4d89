-- `draft::writing::put_bytes` meets its contract. Assumes nothing.
use Rattle.std.proofs.Common.{◌≡◌, ℕ, suc, ◌+◌, List, get_or, sym, ◌∙◌, ap, arith}
use Rattle.std.proofs.Math.ListN.{drop, set, drop_of_length-le}
use Rattle.std.proofs.lemmas.List.{drop_more}
use Rattle.std.proofs.lemmas.List.Edits.{sets}
use Rattle.draft.proofs.writing.put_bytes.Goals as goal

pub loop-i-preserved : goal.loop-i-preserved
loop-i-preserved c =
    let at = c.args.at in
    let i = c.loop-i.i in
    let s = c.args.s.now in
    let t = c.loop-i.ticket in
    let e : at + (i + 1) ≡ suc (at + i) = omega arith in
    ap (λ (k : ℕ). sets (set t (at + i) (get_or s i 0)) k (drop (i + 1) s)) e
    ∙ ap (λ (x : List ℕ). sets t (at + i) x) (sym (drop_more s i 0 c.loop-i-test.true))
    ∙ c.loop-i.invariant

pub returns : goal.returns
returns c =
    ap (λ (x : List ℕ). sets c.loop-i.ticket (c.args.at + c.loop-i.i) x)
    (sym (drop_of_length-le c.args.s.now c.loop-i-test.false))
    ∙ c.loop-i.invariant

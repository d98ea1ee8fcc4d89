-- How long the lines are at most. Assumes nothing.
use mathlib.Core.Path.{◌≡◌, ◌∙◌, ap}
use mathlib.Core.List.{List, [], ◌∷◌}
use Prim.Native.Nat.{ℕ, ◌+◌, ◌≤◌, ◌<◌}
use native.Mathlib.Omega.{arith}
use lib.ListN.{length, length-append}
use Rattle.report.specs.declared.Report.{Report}
use Rattle.report.specs.declared.answer.Answer.{Answer}
use Rattle.rules.specs.declared.Cover.{Cover}
use Rattle.rules.specs.Program.{decimal, numbers, refusal_line}
use Rattle.lines.specs.Lines.{answer_line, report_line, cover_line}
use Rattle.lines.proofs.Digits.{decimal-most, decimal-byte, decimal-two-bytes, numbers-none, numbers_more}

length-numbers : (n : ℕ) (ns : List ℕ) → length (numbers (n ∷ ns)) ≡ 1 + length (decimal n) + length (numbers ns)
length-numbers n ns = ap length (numbers_more n ns) ∙ length-append (32 ∷ decimal n) (numbers ns) ∙ omega arith

numbers-one : (a : ℕ) → length (numbers (a ∷ [])) ≡ 2 + length (decimal a)
numbers-one a = let e = length-numbers a [] in let l = ap length numbers-none in omega arith

numbers-four : (a b c d : ℕ)
    → length (numbers (a ∷ b ∷ c ∷ d ∷ [])) ≡ 5 + length (decimal a) + length (decimal b) + length (decimal c) + length (decimal d)
numbers-four a b c d =
    let e = length-numbers a (b ∷ c ∷ d ∷ []) in
    let f = length-numbers b (c ∷ d ∷ []) in
    let g = length-numbers c (d ∷ []) in
    let h = numbers-one d in
    omega arith

pub answer-line-most : (n : ℕ) (a : Answer) → a.refusal < 256 → a.reports < 65536 → a.rows < 256 → length (answer_line n a) ≤ 37
answer-line-most n a h k l =
    let e = numbers-four n a.refusal a.reports a.rows in
    omega (arith, decimal-most n, decimal-byte a.refusal h, decimal-two-bytes a.reports k, decimal-byte a.rows l)

pub report-line-most : (r : Report) → r.to < 256 → r.code < 256 → r.order < 65536 → length (report_line r) ≤ 37
report-line-most r h k l =
    let e = numbers-four r.to r.code r.order r.amount in
    omega (arith, decimal-byte r.to h, decimal-byte r.code k, decimal-two-bytes r.order l, decimal-most r.amount)

pub cover-line-most : (p : ℕ) (c : Cover) → length (cover_line p c) ≤ 86
cover-line-most p c =
    let e = numbers-four p c.available c.reserved c.held in
    omega (arith, decimal-most p, decimal-most c.available, decimal-most c.reserved, decimal-most c.held)

pub refusal-line-most : (n : ℕ) → n < 256 → length (refusal_line n) ≤ 6
refusal-line-most n h = let e = numbers-one n in omega (arith, decimal-byte n h)

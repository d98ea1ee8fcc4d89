-- `reader::read` meets its contract: it answers a text by what is found in it. Assumes nothing.
use Rattle.std.proofs.Common.{◌≡◌, ◌≤◌, ℕ, length, ◌∙◌, ap, arith}
use Rattle.std.specs.Prelude.{Result, Ok, Err}
use Rattle.std.specs.Result.{IsErrAnd}
use Rattle.xml.specs.WellFormed.{longest}
use Rattle.pacs.specs.declared.refusals.Refused.{Refused}
use Rattle.pacs.specs.Wrongs.{wrong_refusal, refusal_in}
use Rattle.reader.proofs.Whole.{found-long, found-broken, found-astray, found-behind, found-read, refused-so, judged-so, prolog-at, prolog-broken}
use Rattle.reader.proofs.read.Goals as goal

abbrev told : Refused → ℕ
told why = wrong_refusal why.wrong

-- an error that is handed on
handed-on : (r : Result (Unit {0}) Refused) (why : Refused) → IsErrAnd r (λ x. x ≡ why) → refusal_in r ≡ wrong_refusal why.wrong
handed-on (Ok done) why h = absurd h
handed-on (Err x) why h = ap told h

pub returns-then-text-gt-LONGEST : goal.returns-then-text-gt-LONGEST
returns-then-text-gt-LONGEST c =
    let t = c.args.text.now in
    refused-so t _ _ (ap told c.at.ensures) (found-long t (omega (arith, c.if-text-gt-LONGEST.true)))

pub returns-in-Err : goal.returns-in-Err
returns-in-Err c =
    let t = c.args.text.now in
    refused-so t _ _ (ap told c.at-in-Err.ensures)
    (found-broken t c.if-text-gt-LONGEST.false (prolog-broken t c.in-Err.is c.prolog_end.ensures))

pub returns-in_err-end : goal.returns-in_err-end
returns-in_err-end c =
    let t = c.args.text.now in
    let fits : length t ≤ longest = c.if-text-gt-LONGEST.false in
    let prolog = prolog-at t c.in-Ok.is c.prolog_end.ensures in
    let place = c.in-Ok.end in
    let spaced = c.run_end-start.ensures in
    refused-so t _ _ (handed-on _ _ c.from_residual.ensures.1 ∙ c.in_err-end.ensures.1)
    (found-astray t fits prolog.0 place prolog.1 spaced c.in_err-end.ensures.0)

pub returns-then-behind-text : goal.returns-then-behind-text
returns-then-behind-text c =
    let t = c.args.text.now in
    let fits : length t ≤ longest = c.if-text-gt-LONGEST.false in
    let prolog = prolog-at t c.in-Ok.is c.prolog_end.ensures in
    let place = c.in-Ok.end in
    let spaced = c.run_end-start.ensures in
    let w = c.in_ok-end.ensures.walked in
    refused-so
    t
    _
    _
    (ap told c.at-then-behind-text.ensures)
    (found-behind
    t
    fits
    prolog.0
    place
    prolog.1
    spaced
    w.root
    w.seen
    _
    w.arrives
    w.within
    c.run_end-behind.ensures
    c.if-behind-text.true)

pub returns : goal.returns
returns c =
    let t = c.args.text.now in
    let fits : length t ≤ longest = c.if-text-gt-LONGEST.false in
    let prolog = prolog-at t c.in-Ok.is c.prolog_end.ensures in
    let place = c.in-Ok.end in
    let spaced = c.run_end-start.ensures in
    let w = c.in_ok-end.ensures.walked in
    judged-so
    t
    _
    _
    _
    _
    w.seen
    (found-read
    t
    fits
    prolog.0
    place
    prolog.1
    spaced
    w.root
    w.seen
    _
    w.arrives
    w.within
    c.run_end-behind.ensures
    c.if-behind-text.false)
    (c.judge.ensures w.seen w.keeps)

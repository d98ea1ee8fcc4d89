use Rattle.std.proofs.Common.{◌≡◌, ℕ, ◌-◌, get_or, sym, subst, ◌∙◌, arith}
use Rattle.fields.specs.Text.{same}
use Rattle.index.specs.RowChains.{row_bucket, row_at}
use Rattle.index.proofs.AlongChain.{LeftBelow, left-at-head, link-falls, left-at-link, found-there, found_nowhere}
use Rattle.index.proofs.RowsInUse.{same_is, first-is, searchable}
use Rattle.index.proofs.table.Index.find.Goals as goal

pub loop-at-init : goal.loop-at-init
loop-at-init g c =
    let x = c.self.inside in
    let words = c.args.words.now in
    subst
    (λ (b : ℕ).
    LeftBelow (row_bucket words) (λ i. row_bucket (row_at x.rows i)) (λ i. same (row_at x.rows i) words) x.count (get_or x.heads b 0))
    (sym c.bucket.ensures.0)
    (left-at-head (searchable x.rows x.count c.self.view_is c.self.told c.self.invariant.0 c.self.invariant.2 c.requires words))

pub returns-then-eq : goal.returns-then-eq
returns-then-eq g c =
    let x = c.self.inside in
    let words = c.args.words.now in
    sym (first-is x.rows x.count c.self.view_is c.self.told c.self.invariant.0 words
    ∙ found-there (searchable x.rows x.count c.self.view_is c.self.told c.self.invariant.0 c.self.invariant.2 c.requires words)
    c.loop-at-test.true c.loop-at.invariant (same_is (row_at x.rows (c.loop-at.at - 1)) words ∙ sym c.eq.ensures ∙ c.if-eq.true))

pub loop-at-smaller : goal.loop-at-smaller
loop-at-smaller g c =
    let x = c.self.inside in
    link-falls
    (searchable x.rows x.count c.self.view_is c.self.told c.self.invariant.0 c.self.invariant.2 c.requires c.args.words.now)
    c.loop-at-test.true c.loop-at.invariant

pub loop-at-preserved : goal.loop-at-preserved
loop-at-preserved g c =
    let x = c.self.inside in
    let words = c.args.words.now in
    left-at-link (searchable x.rows x.count c.self.view_is c.self.told c.self.invariant.0 c.self.invariant.2 c.requires words)
    c.loop-at-test.true c.loop-at.invariant (same_is (row_at x.rows (c.loop-at.at - 1)) words ∙ sym c.eq.ensures ∙ c.if-eq.false)

pub returns : goal.returns
returns g c =
    let x = c.self.inside in
    let words = c.args.words.now in
    let end : c.loop-at.at ≡ 0 = let t = c.loop-at-test.false in omega arith in
    sym (first-is x.rows x.count c.self.view_is c.self.told c.self.invariant.0 words
    ∙ found_nowhere (searchable x.rows x.count c.self.view_is c.self.told c.self.invariant.0 c.self.invariant.2 c.requires words)
    (subst (LeftBelow (row_bucket words) (λ i. row_bucket (row_at x.rows i)) (λ i. same (row_at x.rows i) words) x.count) end
    c.loop-at.invariant))

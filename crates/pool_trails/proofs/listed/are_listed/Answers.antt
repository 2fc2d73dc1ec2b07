use Rattle.std.proofs.Common.{◌≡◌, ◌<◌, ◌∙◌, true, ap, arith, get_or, length, sym}
use Rattle.trail_pools.specs.declared.state.PoolState.{PoolState}
use Rattle.end_lemmas.specs.declared.lemma.EndLemma.{EndLemma}
use Rattle.pool_log.specs.declared.lemma.PoolLine.{PoolLine}
use Rattle.pool_certificate.specs.Accepted.{lemma_listed}
use Rattle.pool_trails.proofs.Lists.{more_alike, one_unlike}
use Rattle.pool_trails.proofs.listed.are_listed.Goals as goal

pub returns-then-not-branch : goal.returns-then-not-branch
returns-then-not-branch c =
    let g : PoolLine → EndLemma PoolState = lemma_listed c.args.along.now.steps.pools c.args.along.now.levels in
    let other : g (get_or c.args.lines.now c.lines.at c.index-lines-at.result)
    ≡ get_or c.args.lemmas.now c.lines.at c.index-lemmas-at.result → ⊥ =
    λ same.
    let yes : c.in_ok-is_listed.field-0 ≡ true =
    c.in_ok-is_listed.ensures.1 (ap g c.index-lines-at.is ∙ same ∙ sym c.index-lemmas-at.is) in
    let off = c.if-not-branch.true in
    cc in (
      λ yes. absurd cc,
      λ same. absurd (one_unlike g c.args.lines.now c.args.lemmas.now c.lines.at c.index-lines-at.result
          c.index-lemmas-at.result c.lines-test.true other same),
    )

pub lines-preserved : goal.lines-preserved
lines-preserved c =
    let g : PoolLine → EndLemma PoolState = lemma_listed c.args.along.now.steps.pools c.args.along.now.levels in
    let inside : c.lines.at < length c.args.lemmas.now = omega (arith, c.lines-test.true, c.if-lines-lemmas.false) in
    let same : g (get_or c.args.lines.now c.lines.at c.index-lines-at.result)
    ≡ get_or c.args.lemmas.now c.lines.at c.index-lemmas-at.result =
    sym (ap g c.index-lines-at.is) ∙ c.in_ok-is_listed.ensures.0 c.if-not-branch.false ∙ c.index-lemmas-at.is in
    more_alike g c.args.lines.now c.args.lemmas.now c.lines.at c.index-lines-at.result c.index-lemmas-at.result
    c.lines-test.true inside same c.lines.invariant

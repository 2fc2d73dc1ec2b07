use Rattle.std.proofs.Common.{◌≤◌, All, arith, length, subst}
use Rattle.row_needs.specs.Bound.{value_by}
use Rattle.row_cycles.specs.Certificate.{Certifies}
use Rattle.row_cycles.specs.Fits.{CycleFits}
use Rattle.cycle_search.specs.Search.{AreKept, HasReason, IsEnd, IsFirstWired, IsSpent, lemmas_in}
use Rattle.cycle_search.specs.declared.search.WiredRow.{WiredRow}
use Rattle.cell_make.proofs.LowPasses.{begins, ends, finds, goes_on, spends}
use Rattle.cell_make.proofs.LowRows.{fewer_than_columns}
use Rattle.cell_make.proofs.Makes.{few_columns}
use Rattle.cell_make.proofs.low_wired.LowWired.by_bound.Goals as goal

pub gaps-fewest-requires : goal.gaps-fewest-requires
gaps-fewest-requires c = omega (arith, few_columns c.args.inputs.now c.args.least.now c.show_limits.ensures c.requires.least.arranges)

pub loop-gaps-init : goal.loop-gaps-init
loop-gaps-init c =
    begins c.args.inputs.now c.args.kinds.now c.gaps-fewest.result c.show_limits.ensures c.requires.kinds c.show_limits-2.ensures
    c.args.least.now c.nothing_at-below.result c.requires.least c.gaps-fewest.ensures c.nothing_at-below.ensures

pub returns-in-Found : goal.returns-in-Found
returns-in-Found c =
    let first : IsFirstWired c.args.inputs.now.cell.pins c.args.kinds.now c.loop-gaps.gaps c.in-Found.row = subst (IsEnd (value_by c.args.bound.now) c.args.inputs.now.cell.pins c.args.kinds.now c.loop-gaps.gaps) c.in-Found.is c.in_ok-ended.ensures.end in
    finds c.args.inputs.now c.args.kinds.now c.loop-gaps.gaps c.show_limits.ensures c.requires.kinds c.show_limits-2.ensures
    c.loop-gaps.below c.loop-gaps.invariant c.in-Found.row c.wired_rows.ensures.legal c.wired_rows.ensures.unwired first

pub loop-gaps-preserved : goal.loop-gaps-preserved
loop-gaps-preserved c =
    let few : c.loop-gaps.gaps ≤ 63 = omega (arith, c.loop-gaps-test.true, c.len-columns.ensures, few_columns c.args.inputs.now c.args.least.now c.show_limits.ensures c.requires.least.arranges) in
    let certified : Certifies (value_by c.args.bound.now) c.args.inputs.now.cell.pins c.args.kinds.now c.loop-gaps.gaps c.in-None.lemmas = subst (IsEnd (value_by c.args.bound.now) c.args.inputs.now.cell.pins c.args.kinds.now c.loop-gaps.gaps) c.in-None.is c.in_ok-ended.ensures.end in
    let kept : AreKept (value_by c.args.bound.now) c.args.inputs.now.cell.pins c.args.kinds.now c.loop-gaps.gaps c.in-None.lemmas × (length c.in-None.lemmas ≤ c.args.inputs.now.tech.budget) = subst (HasReason (value_by c.args.bound.now) c.args.inputs.now.cell.pins c.args.kinds.now c.loop-gaps.gaps c.args.inputs.now.tech.budget) c.in-None.is c.in_ok-ended.ensures.kept in
    goes_on c.args.inputs.now c.args.kinds.now c.loop-gaps.gaps c.show_limits.ensures c.requires.kinds c.show_limits-2.ensures
    c.args.bound.now c.in-None.lemmas c.unwired_at-below.result c.requires.bound few certified kept.0 kept.1
    (subst (λ (ended : WiredRow). All (CycleFits c.args.kinds.now) (lemmas_in ended)) c.in-None.is (c.in_ok-ended.ensures.fits few))
    (c.cycles_by_lemmas.ensures.unwired c.args.inputs.now.cell.pins c.args.inputs.now.fingers c.args.kinds.now c.loop-gaps.gaps c.in-None.lemmas c.requires.kinds c.show_limits-2.ensures certified)
    c.unwired_at-below.ensures

pub returns-in-Spent : goal.returns-in-Spent
returns-in-Spent c =
    let spent : IsSpent (value_by c.args.bound.now) c.args.inputs.now.cell.pins c.args.kinds.now c.loop-gaps.gaps c.args.inputs.now.tech.budget = subst (HasReason (value_by c.args.bound.now) c.args.inputs.now.cell.pins c.args.kinds.now c.loop-gaps.gaps c.args.inputs.now.tech.budget) c.in-Spent.is c.in_ok-ended.ensures.kept in
    spends c.args.inputs.now c.args.kinds.now c.loop-gaps.gaps c.show_limits.ensures c.requires.kinds c.show_limits-2.ensures
    c.loop-gaps.below c.loop-gaps.invariant (record { bound = c.args.bound.now; is = c.requires.bound; spent = spent })

pub returns : goal.returns
returns c =
    let columns : length c.args.least.now ≤ 32 = few_columns c.args.inputs.now c.args.least.now c.show_limits.ensures c.requires.least.arranges in
    let low : c.gaps-fewest.result ≤ c.len-columns.result = omega (arith, c.gaps-fewest.ensures, c.len-columns.ensures, fewer_than_columns c.args.inputs.now c.args.least.now c.show_limits.ensures c.requires.least.arranges) in
    ends c.args.inputs.now c.args.kinds.now c.loop-gaps.gaps c.show_limits.ensures c.requires.kinds c.show_limits-2.ensures
    c.loop-gaps.below c.loop-gaps.invariant c.args.least.now c.requires.least.arranges (omega (arith, columns, c.loop-gaps-test.false, c.loop-gaps.auto.gaps-end low, c.len-columns.ensures))

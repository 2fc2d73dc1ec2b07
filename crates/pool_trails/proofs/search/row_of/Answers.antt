use Rattle.std.proofs.Common.{◌≡◌, ◌+◌, true, false, subst}
use Rattle.row_state.specs.Completion.{Need}
use Rattle.row_state.specs.Start.{columns_left, start_of}
use Rattle.trail_search.specs.First.{IsFirstRow}
use Rattle.end_search.specs.declared.proof.SearchEnd.TheVariants as ended
use Rattle.trail_search.specs.declared.attempts.Attempts.{Attempts}
use Rattle.trail_search.specs.Searched.{WentForRow}
use Rattle.pool_trails.specs.Ended.{attempts_where}
use Rattle.pool_trails.proofs.Certified.{few_proved, found_is, lemmas_spent, row_spent}
use Rattle.pool_trails.proofs.Vain.{in_vain}
use Rattle.pool_trails.proofs.search.row_of.Goals as goal

pub returns-then-is_spent-clause-stopped : goal.returns-then-is_spent-clause-stopped
returns-then-is_spent-clause-stopped c =
    lemmas_spent c.args.fingers.now c.args.gates.now c.args.kinds.now c.args.budget c.args.proof.now c.args.certificate
    c.requires.fingers c.requires.kinds c.requires.sound c.requires.out c.requires.proof
    c.gaps_left-proved.result c.args.lost c.requires.lost c.gaps_left-proved.ensures
    (c.is_spent.ensures.0 c.if-is_spent.true)

pub first_row-requires : goal.first_row-requires
first_row-requires c = record {
  few = few_proved c.args.fingers.now c.args.gates.now c.args.kinds.now c.args.budget c.args.proof.now
      c.args.certificate
      c.requires.fingers c.requires.kinds c.requires.sound c.requires.out c.requires.proof
      c.gaps_left-proved.result c.args.lost c.requires.lost c.gaps_left-proved.ensures;
}

pub returns-in-Ok-Some-clause-found : goal.returns-in-Ok-Some-clause-found
returns-in-Ok-Some-clause-found c =
    let first : IsFirstRow c.args.kinds.now c.gaps_left-proved.result c.in-Ok-Some.first =
    rw c.in-Ok-Some.field-0-is at c.in-Ok-Some.ensures.found in
    found_is c.args.fingers.now c.args.gates.now c.args.kinds.now c.args.budget c.args.proof.now c.args.certificate
    c.requires.fingers c.requires.kinds c.requires.sound c.requires.out c.requires.proof
    c.gaps_left-proved.result c.args.lost c.requires.lost c.gaps_left-proved.ensures c.in-Ok-Some.first
    c.listing.result first c.listing.ensures

pub returns-in-Ok-None-clause-stopped : goal.returns-in-Ok-None-clause-stopped
returns-in-Ok-None-clause-stopped c =
    let need : Need c.args.kinds.now (start_of c.args.kinds.now) (c.gaps_left-proved.result + 1) =
    rw c.in-Ok-None.field-0-is at c.in-Ok-None.ensures.none in
    let off : c.is_spent.result ≡ false = c.if-is_spent.false in
    let whole : c.args.proof.now.end ≡ ended.Spent → ⊥ =
    λ spent. let yes : c.is_spent.result ≡ true = c.is_spent.ensures.1 spent in cc in
    in_vain c.args.fingers.now c.args.gates.now c.args.kinds.now c.args.budget c.args.proof.now c.args.certificate
    c.requires.fingers c.requires.kinds c.requires.sound c.requires.out c.requires.proof
    c.gaps_left-proved.result c.args.lost c.requires.lost c.gaps_left-proved.ensures whole need

pub returns-in-Err-Spent-clause-stopped : goal.returns-in-Err-Spent-clause-stopped
returns-in-Err-Spent-clause-stopped c =
    let told : WentForRow c.args.kinds.now c.attempts-attempts.result (c.gaps_left-proved.result + 1)
    c.args.proof.now.left (columns_left c.args.kinds.now (start_of c.args.kinds.now)) =
    rw c.in-Err-Spent.field-0-is at c.in-Err-Spent.ensures.spent in
    let went : WentForRow c.args.kinds.now (attempts_where c.args.gates.now.uncrowded)
    (c.gaps_left-proved.result + 1) c.args.proof.now.left
    (columns_left c.args.kinds.now (start_of c.args.kinds.now)) =
    subst (λ (z : Attempts). WentForRow c.args.kinds.now z (c.gaps_left-proved.result + 1) c.args.proof.now.left
    (columns_left c.args.kinds.now (start_of c.args.kinds.now))) c.attempts-attempts.ensures told in
    row_spent c.args.fingers.now c.args.gates.now c.args.kinds.now c.args.budget c.args.proof.now c.args.certificate
    c.requires.fingers c.requires.kinds c.requires.sound c.requires.out c.requires.proof
    c.gaps_left-proved.result c.args.lost c.requires.lost c.gaps_left-proved.ensures went

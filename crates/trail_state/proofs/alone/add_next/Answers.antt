use Rattle.std.proofs.Common.{rules, ◌≡◌, ◌∷◌, subst}
use Rattle.trail_state.specs.Fronts.{paired}
use Rattle.trail_state.specs.Known.{HasAll, known_parts, parts_of}
use Rattle.trail_state.proofs.Added.{known_after, known_last}
use Rattle.trail_state.proofs.alone.add_next.Goals as goal

pub add_paired-requires-clause-edges : goal.add_paired-requires-clause-edges
add_paired-requires-clause-edges c =
    let first : c.args.xs.now ≡ c.in-Some.x.now ∷ c.in-Some.behind.now = search rules in
    known_after c.args.gate.now c.in-Some.x.now c.in-Some.behind.now c.args.part.now c.args.known (parts_of c.args.all.now.keys)
    (subst (λ xs. HasAll (parts_of c.args.all.now.keys) (known_parts c.args.gate.now xs c.args.part.now c.args.known)) first c.requires.known)

pub add_alone-requires-clause-known : goal.add_alone-requires-clause-known
add_alone-requires-clause-known c =
    let first : c.args.xs.now ≡ c.in-Some.x.now ∷ c.in-Some.behind.now = search rules in
    known_last c.args.gate.now c.in-Some.x.now c.in-Some.behind.now c.args.part.now c.args.known (parts_of c.args.all.now.keys) (parts_of c.add_paired.new.all.keys) (paired c.in-Some.x.now c.args.part.now)
    (subst (λ xs. HasAll (parts_of c.args.all.now.keys) (known_parts c.args.gate.now xs c.args.part.now c.args.known)) first c.requires.known) (search rules)

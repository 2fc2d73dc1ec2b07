use Rattle.std.proofs.Common.{rules, ◌≤◌, ◌<◌, ◌⊎◌, ◌↔◌, ap, length, subst}
use Rattle.track_search.specs.declared.known.Known.{Known}
use Rattle.track_search.specs.Bare.{IsUpTo, known_at}
use Rattle.track_search.proofs.Bare.{bare_set}
use Rattle.track_search.proofs.by_state.note.Goals as goal

pub returns-clause-here : goal.returns-clause-here
returns-clause-here c = λ n.
    let none : 0 < length c.args.lemma.now.tracks → ⊥ = search rules in
    let up : n ≤ c.most.result ↔ (IsUpTo (known_at c.args.known.now c.args.number).closed n ⊎ (n ≤ c.args.lemma.now.gaps)) = subst (λ (x : Known). n ≤ c.most.result ↔ (IsUpTo x.closed n ⊎ (n ≤ c.args.lemma.now.gaps))) c.at-here.ensures (c.most.ensures n) in
    bare_set c.args.lemma.now (known_at c.args.known.now c.args.number).closed (known_at c.set.new.self c.args.number).closed c.most.result n none (ap (λ (x : Known). x.closed) c.in_ok-set.ensures.set) up

use Rattle.std.proofs.Common.{rules, ◌≡◌, max, sym}
use Rattle.std.specs.Prelude.{nat_eq, unwrap_or}
use Rattle.std.specs.HashMap.{get}
use Rattle.lemma_check.proofs.Kept.{one_raised}
use Rattle.lemma_check.proofs.known.Known.note_at.Goals as goal

pub returns-clause-raised : goal.returns-clause-raised
returns-clause-raised c = λ k x valid e s state.
    let most : c.max-most.result ≡ max (unwrap_or (get nat_eq c.args.self.now.bounds c.args.number) 0) c.args.bound = search rules in
    one_raised k (get nat_eq c.args.self.now.bounds) (get nat_eq c.keep.new.bounds) x c.args.bound c.args.number c.max-most.result valid (sym e) most c.in_ok-keep.ensures.kept c.in_ok-keep.ensures.others s state

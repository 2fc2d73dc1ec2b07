use Rattle.std.proofs.Common.{subst, sym}
use Rattle.row_state.specs.Code.{IsCode}
use Rattle.bound_log.specs.declared.log.Rule.TheVariants as by
use Rattle.bound_log.specs.declared.kept.Packed.{Packed}
use Rattle.bound_log.proofs.Keeping.{code_at, lemma_at, room_at, rooms_all}
use Rattle.bound_log.proofs.kept.Kept.fetch.Goals as goal

blank : Packed
blank = record { low = 0; high = 0; bound = 0; rule = by.P }

pub decode-requires-clause-code : goal.decode-requires-clause-code
unfolding blank
decode-requires-clause-code c = subst (IsCode c.self.inside.kinds) (sym c.state.ensures) (code_at c.self.inside.kinds c.self.inside.packed c.as_slice.result.now c.args.self.now c.args.at blank c.self.view_is c.self.invariant c.as_slice.ensures c.requires.place)

pub decode-requires-clause-p_room : goal.decode-requires-clause-p_room
decode-requires-clause-p_room c = (room_at c.self.inside.kinds c.self.inside.packed c.args.self.now c.args.into.now c.args.at c.self.view_is c.requires.room c.requires.place).0

pub decode-requires-clause-n_room : goal.decode-requires-clause-n_room
decode-requires-clause-n_room c = (room_at c.self.inside.kinds c.self.inside.packed c.args.self.now c.args.into.now c.args.at c.self.view_is c.requires.room c.requires.place).1

pub returns-clause-lemma : goal.returns-clause-lemma
unfolding blank
returns-clause-lemma c = lemma_at c.self.inside.kinds c.self.inside.packed c.as_slice.result.now c.args.self.now c.args.at blank c.decode.new.into c.state.result c.from-into.result c.self.view_is c.as_slice.ensures c.requires.place c.state.ensures c.from-into.ensures c.decode.ensures.value

pub returns-clause-room : goal.returns-clause-room
unfolding blank
returns-clause-room c = rooms_all c.self.inside.kinds c.self.inside.packed c.args.self.now _ c.self.view_is c.decode.ensures.state.p_kinds c.decode.ensures.state.n_kinds

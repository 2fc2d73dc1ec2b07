use Rattle.std.proofs.Common.{rules}
use Rattle.std.proofs.lemmas.Bool.{both_ways}
use Rattle.cycle_search.proofs.Visited.{grown_none, grown_push, kept_push, push_covers}
use Rattle.cycle_search.proofs.progress.Progress.keep.Goals as goal

pub returns-then-is_idle-clause-grown : goal.returns-then-is_idle-clause-grown
returns-then-is_idle-clause-grown g c = grown_none c.args.self.now

pub returns-then-task-len-clause-spent : goal.returns-then-task-len-clause-spent
returns-then-task-len-clause-spent g c = λ e. record {
  lemmas = c.add.new.self.lemmas;
  kept = kept_push (g.B.GapBound.value c.args.task.now.bound.now) c.args.task.now.pins.now c.args.task.now.kinds.now c.args.task.now.gaps c.args.self.now.lemmas c.add.new.self.lemmas c.args.lemma c.args.at.now.state c.in_ok-add.ensures.lemmas c.requires.state c.requires.kept.kept c.requires.justified c.requires.within (λ any. both_ways c.is_idle.result c.if-is_idle.false (c.is_idle.ensures.1 any));
  more = search rules;
}

pub returns-clause-kept : goal.returns-clause-kept
returns-clause-kept g c = record {
  kept = kept_push (g.B.GapBound.value c.args.task.now.bound.now) c.args.task.now.pins.now c.args.task.now.kinds.now c.args.task.now.gaps c.args.self.now.lemmas c.add.new.self.lemmas c.args.lemma c.args.at.now.state c.in_ok-add.ensures.lemmas c.requires.state c.requires.kept.kept c.requires.justified c.requires.within (λ any. both_ways c.is_idle.result c.if-is_idle.false (c.is_idle.ensures.1 any));
  few = search rules;
  noted = c.in_ok-add.ensures.noted c.args.task.now.kinds.now c.requires.numbered c.requires.state c.requires.kept.noted;
}

pub returns-clause-grown : goal.returns-clause-grown
returns-clause-grown g c = grown_push c.args.self.now c.add.new.self c.args.lemma c.in_ok-add.ensures.lemmas

pub returns-clause-covered : goal.returns-clause-covered
returns-clause-covered g c = push_covers c.args.task.now.kinds.now c.args.self.now.lemmas c.add.new.self.lemmas c.args.lemma c.args.at.now.state c.in_ok-add.ensures.lemmas c.requires.state

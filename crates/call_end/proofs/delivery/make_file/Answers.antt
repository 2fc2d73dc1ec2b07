use Rattle.std.proofs.Common.{ℕ, ◌≡◌, ◌⊎◌, inr, List, [], Some, Option, IfSome, arith, string_bytes, subst, sym, ◌∙◌}
use Rattle.cell_io.specs.Desk.{Files, View, Both, CreatesOne, ForSome, IsHeld, WrittenIn}
use Rattle.cell_io.proofs.Puts.{created_once, makes_then, refused_so}
use Rattle.call_end.specs.Deliver.{Makes}
use Rattle.log_output.specs.Giving.{Gives, GivesSome, KeepsUntold}
use Rattle.call_end.proofs.Delivered.{on_err, on_ok, rose_wider}
use Rattle.log_output.proofs.Giving.{held_there, keeps_untold, made_none, made_some, made_whole, ok_so, untold_behind}
use Rattle.call_end.proofs.delivery.make_file.Goals as goal

pub returns-clause-some : goal.returns-clause-some
returns-clause-some g c =
    let before : View = g.D.Desk.view c.args.desk.now in
    let after : View = g.D.Desk.view c.write_all.new.desk in
    rw (← c.as_str.ensures.value) (made_none c.as_str.result.now c.args.file.bytes before.made after.made c.in-Err.ensures.err)

pub returns-in-Ok-clause-whole : goal.returns-in-Ok-clause-whole
returns-in-Ok-clause-whole g c =
    let before : View = g.D.Desk.view c.args.desk.now in
    let mid : View = g.D.Desk.view c.write_all.new.desk in
    let after : View = g.D.Desk.view c.give.new.desk in
    ok_so c.give.result (Gives (Some c.as_str-in-Ok.result.now) c.args.file.bytes [] mid after) (Both (Makes c.args.file) before.made after.made)
    (λ h. made_whole (string_bytes c.args.file.name) c.args.file.bytes before mid after (rw (← c.as_str.ensures.value) c.in-Ok.ensures.ok) (rw (← c.as_str-in-Ok.ensures.value) h))
    c.give.ensures.all

pub returns-in-Ok-clause-some : goal.returns-in-Ok-clause-some
returns-in-Ok-clause-some g c =
    let before : View = g.D.Desk.view c.args.desk.now in
    let mid : View = g.D.Desk.view c.write_all.new.desk in
    let after : View = g.D.Desk.view c.give.new.desk in
    refused_so c.give.result (GivesSome (Some c.as_str-in-Ok.result.now) c.args.file.bytes mid after) ((after.made ≡ before.made) ⊎ Both (ForSome c.args.file.bytes (WrittenIn (string_bytes c.args.file.name) c.args.file.bytes)) before.made after.made)
    (λ h. made_some (string_bytes c.args.file.name) c.args.file.bytes before mid after (rw (← c.as_str.ensures.value) c.in-Ok.ensures.ok) (rw (← c.as_str-in-Ok.ensures.value) h))
    c.give.ensures.some

once_still : (name other : List ℕ) (a b c : Option (List (List ℕ))) → other ≡ name → Both (CreatesOne other) a b → c ≡ b → Both (CreatesOne name) a c
once_still name other a b c is one same = created_once name a b c (subst (λ (n : List ℕ). Both (CreatesOne n) a b) is one) same

pub returns-in-Ok-clause-once : goal.returns-in-Ok-clause-once
returns-in-Ok-clause-once g c =
    let before : View = g.D.Desk.view c.args.desk.now in
    let mid : View = g.D.Desk.view c.write_all.new.desk in
    let after : View = g.D.Desk.view c.give.new.desk in
    on_ok c.give.result (Both (CreatesOne (string_bytes c.args.file.name)) before.created after.created)
    (once_still (string_bytes c.args.file.name) c.as_str.result.now before.created mid.created after.created c.as_str.ensures.value c.in-Ok.ensures.once c.give.ensures.only.created)

pub returns-in-Ok-clause-at_most_once : goal.returns-in-Ok-clause-at_most_once
returns-in-Ok-clause-at_most_once g c =
    let before : View = g.D.Desk.view c.args.desk.now in
    let mid : View = g.D.Desk.view c.write_all.new.desk in
    let after : View = g.D.Desk.view c.give.new.desk in
    on_err c.give.result ((after.created ≡ before.created) ⊎ Both (CreatesOne (string_bytes c.args.file.name)) before.created after.created)
    (inr (once_still (string_bytes c.args.file.name) c.as_str.result.now before.created mid.created after.created c.as_str.ensures.value c.in-Ok.ensures.once c.give.ensures.only.created))

pub give-requires : goal.give-requires
give-requires g c =
    let before : View = g.D.Desk.view c.args.desk.now in
    let mid : View = g.D.Desk.view c.write_all.new.desk in
    subst (λ (name : List ℕ). IfSome mid.made (λ (files : Files). IsHeld files name)) (sym c.as_str-in-Ok.ensures.value)
    (held_there (string_bytes c.args.file.name) before.made mid.made (rw (← c.as_str.ensures.value) c.in-Ok.ensures.ok))

-- ---- where the file was not made

pub returns-clause-whole : goal.returns-clause-whole
returns-clause-whole g c = tt

pub returns-clause-once : goal.returns-clause-once
returns-clause-once g c = tt

pub returns-clause-at_most_once : goal.returns-clause-at_most_once
returns-clause-at_most_once g c = rw (← c.as_str.ensures.value) c.in-Err.ensures.at_most_once

pub returns-clause-failed : goal.returns-clause-failed
returns-clause-failed g c = λ is. (c.write_all.ensures.failed (c.in-Err.is ∙ is)).rose

pub returns-clause-memory : goal.returns-clause-memory
returns-clause-memory g c = λ is. (c.write_all.ensures.memory (c.in-Err.is ∙ is)).rose

pub returns-clause-counts : goal.returns-clause-counts
returns-clause-counts g c =
    let before : View = g.D.Desk.view c.args.desk.now in
    let after : View = g.D.Desk.view c.write_all.new.desk in
    subst (λ result. KeepsUntold result before after) c.in-Err.is (keeps_untold c.write_all.result before after c.write_all.ensures.failed c.write_all.ensures.memory c.write_all.ensures.quiet)

pub returns-clause-only : goal.returns-clause-only
returns-clause-only g c = c.write_all.ensures.only

-- ---- what filling it says

pub returns-in-Ok-clause-failed : goal.returns-in-Ok-clause-failed
returns-in-Ok-clause-failed g c =
    let before : View = g.D.Desk.view c.args.desk.now in
    let mid : View = g.D.Desk.view c.write_all.new.desk in
    let after : View = g.D.Desk.view c.give.new.desk in
    λ is. rose_wider before.write_faults mid.write_faults after.write_faults after.write_faults c.write_all.ensures.only.writes (omega arith) (c.give.ensures.failed is)

pub returns-in-Ok-clause-memory : goal.returns-in-Ok-clause-memory
returns-in-Ok-clause-memory g c =
    let before : View = g.D.Desk.view c.args.desk.now in
    let mid : View = g.D.Desk.view c.write_all.new.desk in
    let after : View = g.D.Desk.view c.give.new.desk in
    λ is. rose_wider before.shorts mid.shorts after.shorts after.shorts c.write_all.ensures.only.shorts (omega arith) (c.give.ensures.memory is)

pub returns-in-Ok-clause-counts : goal.returns-in-Ok-clause-counts
returns-in-Ok-clause-counts g c = untold_behind c.give.result (g.D.Desk.view c.args.desk.now) (g.D.Desk.view c.write_all.new.desk) (g.D.Desk.view c.give.new.desk) c.in-Ok.ensures.quiet c.give.ensures.counts

pub returns-in-Ok-clause-only : goal.returns-in-Ok-clause-only
returns-in-Ok-clause-only g c = makes_then (g.D.Desk.view c.args.desk.now) (g.D.Desk.view c.write_all.new.desk) (g.D.Desk.view c.give.new.desk) c.write_all.ensures.only c.give.ensures.only

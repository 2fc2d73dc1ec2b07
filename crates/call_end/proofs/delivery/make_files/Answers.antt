use Rattle.std.proofs.Common.{◌≡◌, ◌≤◌, ◌+◌, ◌∷◌, ◌++◌, List, [], drop, length, sym, subst, ap, ◌∙◌, arith, rules}
use Rattle.std.specs.Vec.{vec_len}
use Rattle.std.specs.Vec.Iter.{into_iter_len}
use Rattle.std.proofs.Math.ListN.{drop_of_length-le}
use Rattle.std.proofs.lemmas.Iterator.Adapters.{YieldsList-from_vec}
use Rattle.std.proofs.lemmas.Iterator.Consumers.{YieldsList-turn, YieldsList-end}
use Rattle.std.proofs.lemmas.List.{length_push}
use Rattle.cell_io.specs.Desk.{Both}
use Rattle.cell_io.proofs.Puts.{quiet_more}
use Rattle.call_end.specs.declared.end.Output.{Output}
use Rattle.call_end.specs.Deliver.{CreatesAll, CreatesFront, MakesAll, MakesSome}
use Rattle.call_end.proofs.Delivered.{all_more, all_none, created_more, created_none, front_here, front_more, makes_trans, next_file, on_err, some_here, some_more}
use Rattle.call_end.proofs.delivery.make_files.Goals as goal

pub returns-in_err-make_file-clause-some : goal.returns-in_err-make_file-clause-some
returns-in_err-make_file-clause-some g c =
    let sized : vec_len c.into_vec-file-items.result ≡ length c.into_vec-file-items.result.items = search rules in
    let count : into_iter_len c.into_iter-file-iterator.result ≡ length c.args.files = c.into_iter-file-iterator.ensures.into_iter_gives.1 ∙ sized ∙ ap (λ (files : List Output). length files) c.into_vec-file-items.ensures in
    let turn = YieldsList-turn (YieldsList-from_vec c.args.files (c.into_iter-file-iterator.ensures.into_iter_gives.0 ∙ c.into_vec-file-items.ensures) count) c.files.yielded c.files.file-iterator c.files.yielded_by c.next.result c.next.new.self c.in-Some.file c.in-Some.is c.next.ensures.steps in
    let later : List Output = drop (length c.files.yielded + 1) c.args.files in
    let next : drop (length c.files.yielded) c.args.files ≡ c.in-Some.file ∷ later = next_file c.args.files (length c.files.yielded) c.in-Some.file turn.0 turn.1 in
    on_err c.from_residual.result (Both (MakesSome c.args.files) (g.D.Desk.view c.args.desk.now).made (g.D.Desk.view c.make_file.new.desk).made)
    (c.files.invariant.1 (g.D.Desk.view c.make_file.new.desk).made
    (subst (λ (files : List Output). Both (MakesSome files) (g.D.Desk.view c.files.desk).made (g.D.Desk.view c.make_file.new.desk).made) (sym next)
    (some_here c.in-Some.file later (g.D.Desk.view c.files.desk).made (g.D.Desk.view c.make_file.new.desk).made c.in_err-make_file.ensures.some)))

pub returns-in_err-make_file-clause-at_most_once : goal.returns-in_err-make_file-clause-at_most_once
returns-in_err-make_file-clause-at_most_once g c =
    let sized : vec_len c.into_vec-file-items.result ≡ length c.into_vec-file-items.result.items = search rules in
    let count : into_iter_len c.into_iter-file-iterator.result ≡ length c.args.files = c.into_iter-file-iterator.ensures.into_iter_gives.1 ∙ sized ∙ ap (λ (files : List Output). length files) c.into_vec-file-items.ensures in
    let turn = YieldsList-turn (YieldsList-from_vec c.args.files (c.into_iter-file-iterator.ensures.into_iter_gives.0 ∙ c.into_vec-file-items.ensures) count) c.files.yielded c.files.file-iterator c.files.yielded_by c.next.result c.next.new.self c.in-Some.file c.in-Some.is c.next.ensures.steps in
    let later : List Output = drop (length c.files.yielded + 1) c.args.files in
    let next : drop (length c.files.yielded) c.args.files ≡ c.in-Some.file ∷ later = next_file c.args.files (length c.files.yielded) c.in-Some.file turn.0 turn.1 in
    on_err c.from_residual.result (Both (CreatesFront c.args.files) (g.D.Desk.view c.args.desk.now).created (g.D.Desk.view c.make_file.new.desk).created)
    (c.files.invariant.5 (g.D.Desk.view c.make_file.new.desk).created
    (subst (λ (files : List Output). Both (CreatesFront files) (g.D.Desk.view c.files.desk).created (g.D.Desk.view c.make_file.new.desk).created) (sym next)
    (front_here c.in-Some.file later (g.D.Desk.view c.files.desk).created (g.D.Desk.view c.make_file.new.desk).created c.in_err-make_file.ensures.at_most_once)))

pub files-preserved : goal.files-preserved
files-preserved g c =
    let sized : vec_len c.into_vec-file-items.result ≡ length c.into_vec-file-items.result.items = search rules in
    let count : into_iter_len c.into_iter-file-iterator.result ≡ length c.args.files = c.into_iter-file-iterator.ensures.into_iter_gives.1 ∙ sized ∙ ap (λ (files : List Output). length files) c.into_vec-file-items.ensures in
    let turn = YieldsList-turn (YieldsList-from_vec c.args.files (c.into_iter-file-iterator.ensures.into_iter_gives.0 ∙ c.into_vec-file-items.ensures) count) c.files.yielded c.files.file-iterator c.files.yielded_by c.next.result c.next.new.self c.in-Some.file c.in-Some.is c.next.ensures.steps in
    let later : List Output = drop (length c.files.yielded + 1) c.args.files in
    let next : drop (length c.files.yielded) c.args.files ≡ c.in-Some.file ∷ later = next_file c.args.files (length c.files.yielded) c.in-Some.file turn.0 turn.1 in
    let behind : drop (length (c.files.yielded ++ c.in-Some.file ∷ [])) c.args.files ≡ later = ap (λ n. drop n c.args.files) (length_push c.files.yielded c.in-Some.file) in (
      (λ last more. c.files.invariant.0 last
          (subst (λ (files : List Output). Both (MakesAll files) (g.D.Desk.view c.files.desk).made last) (sym next)
          (all_more c.in-Some.file later (g.D.Desk.view c.files.desk).made (g.D.Desk.view c.make_file.new.desk).made last c.in_ok-make_file.ensures.whole
          (subst (λ (files : List Output). Both (MakesAll files) (g.D.Desk.view c.make_file.new.desk).made last) behind more)))),
      (λ last more. c.files.invariant.1 last
          (subst (λ (files : List Output). Both (MakesSome files) (g.D.Desk.view c.files.desk).made last) (sym next)
          (some_more c.in-Some.file later (g.D.Desk.view c.files.desk).made (g.D.Desk.view c.make_file.new.desk).made last c.in_ok-make_file.ensures.whole
          (subst (λ (files : List Output). Both (MakesSome files) (g.D.Desk.view c.make_file.new.desk).made last) behind more)))),
      makes_trans (g.D.Desk.view c.args.desk.now) (g.D.Desk.view c.files.desk) (g.D.Desk.view c.make_file.new.desk) c.files.invariant.2 c.make_file.ensures.only,
      quiet_more (g.D.Desk.view c.args.desk.now) (g.D.Desk.view c.files.desk) (g.D.Desk.view c.make_file.new.desk) c.files.invariant.3 c.in_ok-make_file.ensures.counts,
      (λ last more. c.files.invariant.4 last
          (subst (λ (files : List Output). Both (CreatesAll files) (g.D.Desk.view c.files.desk).created last) (sym next)
          (created_more c.in-Some.file later (g.D.Desk.view c.files.desk).created (g.D.Desk.view c.make_file.new.desk).created last c.in_ok-make_file.ensures.once
          (subst (λ (files : List Output). Both (CreatesAll files) (g.D.Desk.view c.make_file.new.desk).created last) behind more)))),
      (λ last more. c.files.invariant.5 last
          (subst (λ (files : List Output). Both (CreatesFront files) (g.D.Desk.view c.files.desk).created last) (sym next)
          (front_more c.in-Some.file later (g.D.Desk.view c.files.desk).created (g.D.Desk.view c.make_file.new.desk).created last c.in_ok-make_file.ensures.once
          (subst (λ (files : List Output). Both (CreatesFront files) (g.D.Desk.view c.make_file.new.desk).created last) behind more)))),
    )

pub returns-clause-all : goal.returns-clause-all
returns-clause-all g c =
    let sized : vec_len c.into_vec-file-items.result ≡ length c.into_vec-file-items.result.items = search rules in
    let count : into_iter_len c.into_iter-file-iterator.result ≡ length c.args.files = c.into_iter-file-iterator.ensures.into_iter_gives.1 ∙ sized ∙ ap (λ (files : List Output). length files) c.into_vec-file-items.ensures in
    let end = YieldsList-end (YieldsList-from_vec c.args.files (c.into_iter-file-iterator.ensures.into_iter_gives.0 ∙ c.into_vec-file-items.ensures) count) c.files.yielded c.files.file-iterator c.files.yielded_by c.next.result c.next.new.self c.in-None.is c.next.ensures.steps in
    let whole : length c.args.files ≤ length c.files.yielded = omega (arith, end.1) in
    c.files.invariant.0 (g.D.Desk.view c.files.desk).made
    (subst (λ (files : List Output). Both (MakesAll files) (g.D.Desk.view c.files.desk).made (g.D.Desk.view c.files.desk).made) (sym (drop_of_length-le c.args.files whole)) (all_none (g.D.Desk.view c.files.desk).made))

pub returns-clause-once : goal.returns-clause-once
returns-clause-once g c =
    let sized : vec_len c.into_vec-file-items.result ≡ length c.into_vec-file-items.result.items = search rules in
    let count : into_iter_len c.into_iter-file-iterator.result ≡ length c.args.files = c.into_iter-file-iterator.ensures.into_iter_gives.1 ∙ sized ∙ ap (λ (files : List Output). length files) c.into_vec-file-items.ensures in
    let end = YieldsList-end (YieldsList-from_vec c.args.files (c.into_iter-file-iterator.ensures.into_iter_gives.0 ∙ c.into_vec-file-items.ensures) count) c.files.yielded c.files.file-iterator c.files.yielded_by c.next.result c.next.new.self c.in-None.is c.next.ensures.steps in
    let whole : length c.args.files ≤ length c.files.yielded = omega (arith, end.1) in
    c.files.invariant.4 (g.D.Desk.view c.files.desk).created
    (subst (λ (files : List Output). Both (CreatesAll files) (g.D.Desk.view c.files.desk).created (g.D.Desk.view c.files.desk).created) (sym (drop_of_length-le c.args.files whole)) (created_none (g.D.Desk.view c.files.desk).created))

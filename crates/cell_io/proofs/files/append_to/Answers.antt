use Rattle.std.proofs.Common.{◌≡◌, ◌++◌, Result, Ok, Err, take, arith}
use Rattle.std.specs.Result.{OnErr}
use Rattle.std.proofs.lemmas.Map.Text.{text_keys}
use Rattle.cell_io.proofs.files.append_to.Goals as goal

pub returns-clause-ok : goal.returns-clause-ok
returns-clause-ok c = λ bytes held q.
    let was : bytes ≡ c.in-Some.bytes.now = grind (arith, text_keys, held) in
    let now : c.extend.new.self ≡ bytes ++ take c.args.count c.args.part.now = rw was (grind (arith, text_keys)) in
    rw (← now) (grind (arith, text_keys))

on_any : {T E : Type 0} (r : Result T E) (P : Type 0) → P → OnErr r P
on_any (Ok value) P p = tt
on_any (Err error) P p = p

pub returns-in_err-extend-clause-err : goal.returns-in_err-extend-clause-err
returns-in_err-extend-clause-err c = on_any c.from_residual.result _ (λ q. grind (arith, text_keys))

use Rattle.std.proofs.Common.{ℕ, ◌≡◌, ◌+◌, ◌*◌, ◌++◌, ◌∷◌, [], List, map, ap, sym, subst, ◌∙◌, arith, rules}
use Rattle.std.specs.List.{range_with_len}
use Rattle.std.proofs.lemmas.List.FromFn.{map-range_with_len_more}
use Rattle.row_compact.proofs.Even.{even_spread, even_allowed}
use Rattle.row_compact.proofs.lines.even_lines.Goals as goal

pub loop-line-preserved : goal.loop-line-preserved
loop-line-preserved c =
    let next : c.push.new.self ≡ c.loop-line.xs ++ (8 + 14 * c.loop-line.line) ∷ [] = search rules in
    next ∙ ap (λ (xs : List ℕ). xs ++ (8 + 14 * c.loop-line.line) ∷ []) c.loop-line.invariant ∙ sym (map-range_with_len_more (λ line. 8 + 14 * line) 0 c.loop-line.line c.loop-line.line (omega arith))

pub returns-clause-allowed : goal.returns-clause-allowed
returns-clause-allowed c =
    let end : c.loop-line.line ≡ c.args.lines = search rules in
    even_allowed c.args.lines c.loop-line.xs (subst (λ n. c.loop-line.xs ≡ map (λ line. 8 + 14 * line) (range_with_len 0 n)) end c.loop-line.invariant)

pub returns-clause-spread : goal.returns-clause-spread
returns-clause-spread c =
    let end : c.loop-line.line ≡ c.args.lines = search rules in
    even_spread c.args.lines c.loop-line.xs (subst (λ n. c.loop-line.xs ≡ map (λ line. 8 + 14 * line) (range_with_len 0 n)) end c.loop-line.invariant)

-- What is said of so many draws, stages or cells, and of one more.
use Rattle.std.proofs.Common.{ℕ, ◌≡◌, ◌+◌, List, [], ◌∷◌, ◌++◌, map, add-one, arith, refl, sym, ap, ◌∙◌}
use Rattle.std.specs.List.{flat_map, range_with_len}
use Rattle.std.proofs.lemmas.List.{append-nil}
use Rattle.std.proofs.lemmas.List.FromFn.{map-range_with_len_more}
use Rattle.std.proofs.lemmas.Grind.{flat_map-append}
use Rattle.cell_num.proofs.Ranges.{range_more}
use Rattle.bench_command.specs.Draws.{next, state_before}
use Rattle.bench_command.specs.Cells.{stage_at}

pub state_more : (seed draws : ℕ) → state_before seed (draws + 1) ≡ next (state_before seed draws)
state_more seed draws = rw (add-one draws) refl

pub stages_more : (cell place : ℕ) → map (stage_at cell) (range_with_len 0 (place + 1)) ≡ map (stage_at cell) (range_with_len 0 place) ++ stage_at cell place ∷ []
stages_more cell place = map-range_with_len_more (stage_at cell) 0 place place (let e : ◌≡◌ {A = ℕ} (0 + place) place = omega arith in e)

pub text_more : (f : ℕ → List ℕ) (n : ℕ) (old new : List ℕ) → old ≡ flat_map f (range_with_len 0 n) → new ≡ old ++ f n → new ≡ flat_map f (range_with_len 0 (n + 1))
text_more f n old new e is =
    let whole : flat_map f (range_with_len 0 (n + 1)) ≡ flat_map f (range_with_len 0 n) ++ f n = ap (λ z. flat_map f z) (range_more n) ∙ (flat_map-append f (range_with_len 0 n) (n ∷ []) ∙ ap (λ z. flat_map f (range_with_len 0 n) ++ z) (append-nil (f n))) in
    is ∙ (ap (λ z. z ++ f n) e ∙ sym whole)

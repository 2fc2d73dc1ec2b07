-- A test of all chains of so many stages.
use Rattle.std.specs.Prelude.{ℕ, zero, suc, ◌≡◌, ◌&&◌, Bool, true, List, [], ◌∷◌, length}
use Rattle.std.proofs.lemmas.Bool.{and_parts}
use Rattle.bench_command.specs.declared.stage.Stage.{Stage}
use Rattle.bench_command.specs.declared.stage.Stage.TheVariants.{Inverter, Nand2, Nor2}

abbrev pub all_chains : ℕ → (List Stage → Bool) → Bool
all_chains zero test = test []
all_chains (suc n) test =
    all_chains n (λ more. test (Inverter ∷ more))
    && all_chains n (λ more. test (Nand2 ∷ more))
    && all_chains n (λ more. test (Nor2 ∷ more))

-- what all chains pass that begin with a stage
abbrev all_behind : Stage → ℕ → (List Stage → Bool) → Bool
all_behind stage n test = all_chains n (λ more. test (stage ∷ more))

any_first : (stage : Stage) (n : ℕ) (test : List Stage → Bool) → all_chains (suc n) test ≡ true → all_behind stage n test ≡ true
any_first stage n test h =
    let last = and_parts (all_behind Inverter n test && all_behind Nand2 n test) (all_behind Nor2 n test) h in
    let both = and_parts (all_behind Inverter n test) (all_behind Nand2 n test) last.0 in
    by_stage stage both.0 both.1 last.1
  where
    by_stage : (stage : Stage) → all_behind Inverter n test ≡ true → all_behind Nand2 n test ≡ true → all_behind Nor2 n test ≡ true → all_behind stage n test ≡ true
    by_stage Inverter i a o = i
    by_stage Nand2 i a o = a
    by_stage Nor2 i a o = o

-- what all chains pass, each passes
pub one_chain : (stages : List Stage) (test : List Stage → Bool) → all_chains (length stages) test ≡ true → test stages ≡ true
one_chain [] test h = h
one_chain (stage ∷ more) test h = one_chain more (λ later. test (stage ∷ later)) (any_first stage (length more) test h)

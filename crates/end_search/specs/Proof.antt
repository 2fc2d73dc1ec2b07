-- What a search proves, and how it ends.
use Rattle.std.specs.Prelude.{ℕ, ◌≡◌, ◌≢◌, ◌≤◌, ◌<◌, ◌+◌, ◌-◌, ◌*◌, ◌/◌, List, All}
use Rattle.end_lemmas.specs.declared.lemma.EndLemma.{EndLemma}
use Rattle.end_lemmas.specs.Justified.{AreEndsProved, AreJustified}
use Rattle.end_lemmas.specs.Steps.{Ends, Steps}
use Rattle.end_search.specs.declared.proof.EndProof.{EndProof}
use Rattle.end_search.specs.declared.proof.SearchEnd.{SearchEnd}
use Rattle.end_search.specs.declared.proof.SearchEnd.TheVariants as ended
use Rattle.end_search.specs.New.{AreNew}
use Rattle.end_search.specs.Reached.{HasFewer, IsReached}
use Rattle.end_search.specs.Units.{path_units, units_of}

-- A row has two ends for each of its stretches without a gap. So this many ends prove so many gaps.
abbrev pub gaps_proved : ℕ → ℕ
gaps_proved ends = (ends - 1) / 2

-- the fewest ends that prove a gap more
abbrev pub next_need : ℕ → ℕ
next_need ends = 2 * gaps_proved ends + 3

module _ {L C S : Type 0} (steps : Steps L C S) (levels : List L) (start : S) (gaps : ℕ) where
  -- no lemmas prove a gap more; or as many gaps as asked are proved; or no unit is left
  abbrev pub EndsAs : ℕ → ℕ → SearchEnd → Type 0
  EndsAs ends left ended.Exact = HasFewer steps levels start (next_need ends)
  EndsAs ends left ended.Asked = gaps_proved ends ≡ gaps
  EndsAs ends left ended.Spent = left ≡ 0

  -- Lemmas that prove its ends. Each is justified by those before it, says more than they do, and is on a state that
  -- choices lead to while fewer ends are looked for than prove a gap more. Unless as many gaps as asked are proved, it
  -- is fewer. The units of the budget went for states of lemmas, but for at most one state before each level.
  pub record IsEndProof (budget : ℕ) (proof : EndProof S) : Type 0 where
    pub justified : AreJustified steps levels proof.lemmas
    pub ends_are : AreEndsProved start proof.lemmas proof.ends
    pub least : Ends steps levels start proof.ends
    pub end_is : EndsAs proof.ends proof.left proof.end
    pub more_asked : proof.end ≢ ended.Asked → gaps_proved proof.ends < gaps
    pub new : AreNew proof.lemmas
    pub reached : All (IsReached steps levels 0 start (next_need proof.ends)) proof.lemmas
    pub few_units : proof.left + units_of steps levels proof.lemmas ≤ budget
    pub many_units : budget ≤ proof.left + units_of steps levels proof.lemmas + path_units steps levels

abbrev pub proof_of : {S : Type 0} → List (EndLemma S) → ℕ → ℕ → SearchEnd → EndProof S
proof_of lemmas ends left end = record { lemmas = lemmas; ends = ends; end = end; left = left }

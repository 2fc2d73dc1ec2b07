-- With straight trunks: what the search by tracks proves, by a row that can be wired with the fewest gaps.
use Rattle.std.proofs.Common.{ℕ, ◌≡◌, ◌≤◌, ◌⊎◌, inl, inr, List, [], All, refl, subst, sym, arith}
use Rattle.std.proofs.lemmas.List.Elements.{All-nil}
use Rattle.row_model.specs.declared.column.Column.{Column}
use Rattle.row_model.specs.Gaps.{gaps_of}
use Rattle.row_state.specs.declared.kind.Kinds.{Kinds}
use Rattle.row_state.specs.Component.{component_value}
use Rattle.row_state.specs.Start.{AreKinds, AreSomeKinds}
use Rattle.row_search.specs.First.{IsFirstLeast}
use Rattle.row_place.specs.Places.{placement_of}
use Rattle.channel_route.specs.Routing.{IsLegal}
use Rattle.first_route.specs.First.{IsFirstRouting}
use Rattle.row_cycles.specs.declared.lemma.CycleLemma.{CycleLemma}
use Rattle.row_cycles.specs.Fits.{CycleFits}
use Rattle.track_log.specs.Fits.{LemmaFits}
use Rattle.track_search.specs.Fewest.{Prove, TakeAtLeast}
use Rattle.track_search.specs.Kept.{IsKeptWithin}
use Rattle.track_search.specs.declared.lowest.Lowest.{Lowest}
use Rattle.track_search.specs.declared.lowest.Lowest.TheVariants as ended
use Rattle.track_search.specs.Lowest.{Arranges, IfFound, IsBudgetSpent, IsFirstLow, IsOpen, least_of, lemmas_of}
use Rattle.cell_inputs.specs.declared.style.Wiring.TheVariants.{Straight}
use Rattle.cell_inputs.specs.Inputs.{AreInputs, Inputs}
use Rattle.cell_make.specs.declared.low_planned.LowPlanned.{LowPlanned}
use Rattle.cell_make.specs.Low.{IsLowPlanned}
use Rattle.cell_make.specs.LowEnded.{planned_by}
use Rattle.cell_make.specs.LowRows.{IsFirstLeastWired, IsLeast, IsLeastWired}
use Rattle.cell_make.specs.LowWired.{AreBelow, IsPlannedBy}
use Rattle.cell_make.proofs.LowEnds.{lowest_is, proves}
use Rattle.cell_make.proofs.LowRows.{fewer_than_nets}

-- there are no rows with fewer gaps than a least one
pub least_below : (inputs : Inputs) (k : Kinds) (row : List Column) → IsLeast inputs.fingers row → AreBelow inputs k (gaps_of row) []
least_below inputs k row is = record { below = inl (record { fewest = is.least; alone = refl }); fit = All-nil (CycleFits k) }

-- what the search says, over the kinds of the fingers, by that many gaps and that budget
pub record IsEnd (inputs : Inputs) (k : Kinds) (gaps budget : ℕ) (lowest : Lowest) : Type 0 where
  pub arranges : IfFound (λ p r. Arranges k gaps p.row) lowest
  pub placed : IfFound (λ p r. p ≡ placement_of p.row) lowest
  pub legal : IfFound (λ p r. IsLegal p inputs.cell.pins r) lowest
  pub fewest : TakeAtLeast inputs.cell.pins k gaps (least_of lowest)
  pub first : IfFound (λ p r. IsFirstLow inputs.cell.pins k gaps r.tracks p.row) lowest
  pub routing : IfFound (λ p r. IsFirstRouting p inputs.cell.pins r.tracks r) lowest
  pub certified : Prove component_value inputs.cell.pins k gaps (least_of lowest) (lemmas_of lowest)
  pub fits : gaps ≤ 63 → inputs.fingers.nets ≤ 256 → All (LemmaFits k) (lemmas_of lowest)
  pub kept : IsKeptWithin component_value inputs.cell.pins k gaps (least_of lowest) budget (lemmas_of lowest)
  pub most : least_of lowest ≤ inputs.fingers.nets
  pub spent : IsOpen component_value inputs.cell.pins k gaps inputs.fingers.nets budget lowest

-- ... where these are the gaps of a row that can be wired with the fewest
module _ (inputs : Inputs) (k : Kinds) (gaps : ℕ) (row : List Column) (cycles : List CycleLemma) (are : AreInputs inputs) (kinds : AreKinds inputs.fingers k) (some : AreSomeKinds k) (is : IsLeastWired Straight inputs row) (same : gaps ≡ gaps_of row) (below : AreBelow inputs k gaps cycles) where
  -- the row takes fewer tracks than the cell has nets
  still_open : (X : Type 0) (tracks : ℕ) → TakeAtLeast inputs.cell.pins k gaps tracks → (tracks ≡ inputs.fingers.nets) ⊎ X → X
  still_open X tracks fewest (inl all) = absurd (omega (arith, fewest inputs.fingers row is.wired.0 kinds is.arranges (omega (arith, same)) is.wired.1, all, fewer_than_nets inputs row is.wired.0 are is.arranges is.wired.1))
  still_open X tracks fewest (inr x) = x

  planned : (least : List Column) → (IsFirstLeast inputs.fingers least → IsFirstLeastWired Straight inputs row) → (lowest : Lowest) → IsEnd inputs k gaps inputs.tech.budget lowest → IsLowPlanned Straight inputs least (planned_by lowest row gaps cycles)
  planned least first (ended.Found placement routing lemmas) h = (
    h.placed,
    lowest_is Straight inputs k gaps row cycles are kinds some is.arranges same (λ other o w. omega (arith, same, is.least other o w)) below.below below.fit placement routing lemmas
        (record { arranges = h.arranges; placed = h.placed; legal = h.legal; first = h.first; routing = h.routing }) h.fewest,
    proves Straight inputs k gaps row cycles are kinds some is.arranges same (λ other o w. omega (arith, same, is.least other o w)) below.below below.fit routing.tracks lemmas
        (record { fewest = h.fewest; certified = h.certified; fits = λ low. h.fits low are.fingers.few_nets; kept = h.kept; few = omega (arith, h.most, are.fingers.few_nets) }),
  )
  planned least first (ended.Open proved lemmas) h = (
    record {
      wired = is;
      first = first;
      gaps = sym same;
      spent = (k, kinds, some, still_open (IsBudgetSpent component_value inputs.cell.pins k gaps proved inputs.tech.budget) proved h.fewest h.spent);
    },
    proves Straight inputs k gaps row cycles are kinds some is.arranges same (λ other o w. omega (arith, same, is.least other o w)) below.below below.fit proved lemmas
        (record { fewest = h.fewest; certified = h.certified; fits = λ low. h.fits low are.fingers.few_nets; kept = h.kept; few = omega (arith, h.most, are.fingers.few_nets) }),
  )

-- ---- the same, as the code sees the inputs

-- the end of a search over what is inside of the inputs
end_so : (inputs inside : Inputs) (k : Kinds) (gaps budget : ℕ) (lowest : Lowest) → inside ≡ inputs → budget ≡ inputs.tech.budget → IsEnd inside k gaps budget lowest → IsEnd inputs k gaps inputs.tech.budget lowest
end_so inputs inside k gaps budget lowest view most end =
    subst (λ n. IsEnd inputs k gaps n lowest) most (subst (λ (i : Inputs). IsEnd i k gaps budget lowest) view end)

pub planned_so : (inputs inside : Inputs) (k : Kinds) (gaps budget : ℕ) (row : List Column) (cycles : List CycleLemma) (lowest : Lowest) (came : LowPlanned) → inside ≡ inputs → budget ≡ inputs.tech.budget → AreInputs inputs → AreKinds inputs.fingers k → AreSomeKinds k → IsLeastWired Straight inputs row → gaps ≡ gaps_of row → AreBelow inputs k (gaps_of row) cycles → IsEnd inside k gaps budget lowest → came ≡ planned_by lowest row gaps cycles → IsPlannedBy inputs row came
planned_so inputs inside k gaps budget row cycles lowest came view most are kinds some wired same below end is least first =
    subst (IsLowPlanned Straight inputs least) (sym is)
    (planned inputs k gaps row cycles are kinds some wired same (subst (λ n. AreBelow inputs k n cycles) (sym same) below) least first lowest (end_so inputs inside k gaps budget lowest view most end))

-- What kept lemmas prove of every arrangement, where gates may be left open.
use Rattle.std.specs.Prelude.{ℕ, ◌≡◌, ◌+◌, ◌*◌, ◌<◌, ◌≤◌, ◌==◌, if◌then◌else◌, not, List, [], Option, None, All, IfSome, length, slice_get}
use Rattle.std.specs.List.{filter}
use Rattle.std.proofs.Common.{◌∷◌, refl, sym, ap, subst, arith, ◌∙◌}
use Rattle.cell_num.specs.declared.net.NetNo.{NetNo}
use Rattle.cell_num.specs.declared.finger.Fingers.{Fingers}
use Rattle.cell_num.specs.Fingers.{AreFingers}
use Rattle.row_model.specs.declared.column.Column.{Column}
use Rattle.row_model.specs.Arrangement.{IsArrangement}
use Rattle.row_model.specs.Gaps.{gaps_of}
use Rattle.trail_state.specs.declared.level.Level.{Level}
use Rattle.trail_state.specs.declared.level.LevelStop.{LevelStop}
use Rattle.trail_state.specs.Levels.{Ends, IsOrder, StopsAt}
use Rattle.open_gates.specs.Leveled.{levels_of, merged_levels}
use Rattle.open_gates.specs.Open.{AreOpenGates, closed_in, open_in}
use Rattle.open_gates.proofs.Law.{open_law}
use Rattle.bound_log.specs.declared.log.Best.{Best}
use Rattle.bound_log.specs.Fits.{BestFits}
use Rattle.trail_log.specs.declared.trails.TrailCertificate.{TrailCertificate}
use Rattle.trail_log.specs.Order.{increases, net_rank}
use Rattle.trail_log.specs.Fits.{LemmaFits, NetFits}
use Rattle.trail_check.specs.declared.lemma.TrailLemma.{TrailLemma}
use Rattle.trail_check.specs.Gates.{AreGates, HasFewWays}
use Rattle.trail_check.specs.Justified.{ends_proved, gaps_proved, unproved}
use Rattle.trail_check.specs.Leveled.{levels_for, open_of}
use Rattle.trail_check.specs.Listed.{lemmas_listed}
use Rattle.trail_check.proofs.Sound.{ends_true}
use Rattle.trail_search.specs.declared.kept.Kept.{Kept}
use Rattle.trail_search.specs.declared.proof.Proof.{Proof}
use Rattle.trail_search.specs.Filling.{closed_gates, filled_gates, is_one_of, opened_gates, uneven_gates}
use Rattle.trail_search.specs.Line.{AllNodes}
use Rattle.trail_search.specs.Proof.{IsProof}
use Rattle.trail_search.specs.Reached.{AreReached}
use Rattle.trail_search.specs.Search.{AreKept, AreNew}
use Rattle.trail_search.proofs.Opening.{none_unfilled, open_gates_are}
use Rattle.trail_search.proofs.OpenLevels.{open_all_nodes}
use Rattle.trail_search.proofs.Orders.{fill_fits, fill_increases, order_fits}

-- ends that each list of choices has, are those of each row
pub levels_gaps : (f : Fingers) (trails : TrailCertificate) (ends : ℕ) → AreFingers f → AreGates f trails → Ends (levels_for f trails) [] ends → (row : List Column) → IsArrangement row f → gaps_proved ends ≤ gaps_of row
levels_gaps f trails ends ok gates holds row arranges =
    omega (arith, open_law f ok trails.order gates.order (open_of f trails) gates.opened ends holds row arranges)

-- where no choices come to as few ends as a row of so many gaps has, each row has more
pub ends_more : (f : Fingers) (trails : TrailCertificate) (gaps : ℕ) → AreFingers f → AreGates f trails → Ends (levels_for f trails) [] (2 * (gaps + 1) + 1) → (row : List Column) → IsArrangement row f → gaps < gaps_of row
ends_more f trails gaps ok gates ends row arranges =
    omega (arith, levels_gaps f trails (2 * (gaps + 1) + 1) ok gates ends row arranges)

gates_are : (f : Fingers) (trails : TrailCertificate) → AreFingers f → IsOrder f trails.order → trails.fill ≡ filled_gates f trails.order → AreGates f trails
gates_are f trails ok is fill = record {
  order = is;
  opened = subst (λ (gs : List NetNo). AreOpenGates f (open_in f gs trails.order)) (sym fill) (open_gates_are f ok trails.order is);
}

pub is_proof : (f : Fingers) (proof : Proof) (levels : List Level) (kept : Kept) → AreFingers f →
    IsOrder f proof.trails.order → HasFewWays f proof.trails → levels ≡ levels_for f proof.trails →
    AreKept levels kept → AreReached levels (gaps_proved (ends_proved kept.lemmas)) kept.lemmas →
    proof.opened ≡ opened_gates f proof.trails.order → proof.trails.fill ≡ filled_gates f proof.trails.order →
    proof.trails.lemmas ≡ kept.lines → proof.trails.best ≡ None → proof.gaps ≡ gaps_proved (ends_proved kept.lemmas) →
    IsProof f proof
is_proof f proof levels kept ok is few same h reached opened fill lines none gaps =
    let gates : AreGates f proof.trails = gates_are f proof.trails ok is fill in
    let listed : lemmas_listed (levels_for f proof.trails) proof.trails.lemmas ≡ kept.lemmas = ap (λ (ls : List Level). lemmas_listed ls proof.trails.lemmas) (sym same) ∙ ap (lemmas_listed levels) lines ∙ h.listed in
    let ends : Ends (levels_for f proof.trails) [] (ends_proved kept.lemmas) = subst (λ (ls : List Level). Ends ls [] (ends_proved kept.lemmas)) same (ends_true levels kept.lemmas 5 h.justified) in
    let nodes : AllNodes f.nets levels = subst (AllNodes f.nets) (sym same) (open_all_nodes f (open_of f proof.trails) proof.trails.order ok) in
    record {
      gates = gates;
      few_ways = few;
      justified = ap (unproved (levels_for f proof.trails) [] 5) listed ∙ ap (λ (ls : List Level). unproved ls [] 5 kept.lemmas) (sym same) ∙ h.justified;
      new = subst (AreNew (levels_for f proof.trails)) (sym listed) (subst (λ (ls : List Level). AreNew ls kept.lemmas) same h.new);
      reached = subst (AreReached (levels_for f proof.trails) proof.gaps) (sym listed) (subst (λ (ls : List Level). AreReached ls proof.gaps kept.lemmas) same (subst (λ (n : ℕ). AreReached levels n kept.lemmas) (sym gaps) reached));
      rowless = none;
      opened = opened;
      fill = fill;
      gaps = gaps ∙ ap (λ (ls : List TrailLemma). gaps_proved (ends_proved ls)) (sym listed);
      least = λ row arranges. subst (λ (n : ℕ). n ≤ gaps_of row) (sym gaps) (levels_gaps f proof.trails (ends_proved kept.lemmas) ok gates ends row arranges);
      fits = λ k nets. record {
        fill = subst (λ (n : ℕ). All (NetFits n) proof.trails.fill) (sym nets) (subst (All (NetFits f.nets)) (sym fill) (fill_fits f proof.trails.order));
        increase = ap (increases net_rank) fill ∙ fill_increases f proof.trails.order;
        order = subst (λ (n : ℕ). All (NetFits n) proof.trails.order) (sym nets) (order_fits f proof.trails.order ok is);
        lemmas = subst (λ (n : ℕ). All (LemmaFits n) proof.trails.lemmas) (sym nets) (subst (All (LemmaFits f.nets)) (sym lines) (h.fits f.nets nodes));
        best = subst (λ (o : Option Best). IfSome o (BestFits k)) (sym none) tt;
      };
    }

-- ---- gates that are left open

-- with none the levels are those of the order
pub closed_levels : (f : Fingers) (trails : TrailCertificate) → (open_of f trails).gates ≡ [] → levels_for f trails ≡ levels_of f trails.order
closed_levels f trails none = ap (λ (gs : List NetNo). if length gs == 0 then levels_of f trails.order else merged_levels f (open_of f trails) trails.order) none

no_first : (gates : List NetNo) → slice_get gates 0 ≡ None → gates ≡ []
no_first [] none = refl
no_first (g ∷ gs) some = absurd cc

pub none_opened : (f : Fingers) (proof : Proof) → AreFingers f → IsProof f proof → slice_get proof.opened 0 ≡ None → (open_of f proof.trails).gates ≡ []
none_opened f proof ok p none =
    subst (λ (gs : List NetNo). (open_in f gs proof.trails.order).gates ≡ []) (sym p.fill) (none_unfilled f ok proof.trails.order p.gates.order (sym p.opened ∙ no_first proof.opened none))

-- the gates that are filled, by those that are left open
pub filled_are : (f : Fingers) (order opened fill : List NetNo) → opened ≡ opened_gates f order → fill ≡ filter (λ gate. not (is_one_of opened gate)) (uneven_gates f) → fill ≡ filled_gates f order
filled_are f order opened fill same others =
    others ∙ ap (λ (gs : List NetNo). filter (λ (g : NetNo). not (is_one_of gs g)) (uneven_gates f)) same

-- why no levels are listed, by the gates that are filled
pub stops_filled : (most : ℕ) (f : Fingers) (order fill : List NetNo) (why : LevelStop) → fill ≡ filled_gates f order → StopsAt most f (closed_in f fill order) why → StopsAt most f (closed_gates f order) why
stops_filled most f order fill why filled stops =
    subst (λ (gs : List NetNo). StopsAt most f (closed_in f gs order) why) filled stops

-- Ports that lie on the nets of their pins.
use Rattle.std.proofs.Common.{◌≡◌, ◌↔◌, ℕ, ℤ, map, IfOk, IfSome, IsNone, Option, Some, None, Result, Ok, Err, List, [], ◌∷◌, ◌++◌, inl, inr, ◌⊎◌, refl, sym, subst, ap, ◌∙◌}
use Rattle.std.specs.List.{All, Contains}
use Rattle.std.proofs.lemmas.Bool.{cases_eq}
use Rattle.std.proofs.lemmas.List.Elements.{All-append, All-contains, All-cons, All-nil, All-head, Contains-append_left, Contains-append_right}
use Rattle.std.proofs.lemmas.List.{append_assoc, map-append}
use Rattle.cell_num.proofs.In.{in_map, contains_map}
use Rattle.cell_num.specs.declared.list.NoMemory.{NoMemory as NoMemoryOf}
use Rattle.cell_num.proofs.Lists.{all_from_contains, contains_here, contains_one, some_same}
use Rattle.box_geom.specs.Rectangle.{Rectangle, Holds, Covers}
use Rattle.box_geom.specs.Regions.{Bare, IsEmpty, IsFirst}
use Rattle.box_geom.specs.declared.layer.Layer.{Layer}
use Rattle.box_geom.specs.declared.region.Place.{Place}
use Rattle.box_geom.specs.declared.shape.Shapes.{Shapes}
use Rattle.scmos_rules.specs.declared.rules.Deck.TheVariants.{Plain}
use Rattle.net_extract.specs.NetMaps.{NetMap, Maps, AreCellsOf, net_of}
use Rattle.net_extract.proofs.Covering.{cover_first}
use Rattle.lef_read.specs.Agreement.{IsOnNet, IsOnItsNet, Port}
use Rattle.lef_read.specs.Differences.{IsFirstNot, IsOff}
use Rattle.lef_read.specs.Lookups.{name_of_claim, port_shown, IsClaim, AreClaims, IsOfNet, Fits, IsAstray, IsMisfit}
use Rattle.lef_read.specs.declared.claim.Claim.{Claim}
use Rattle.lef_read.proofs.Nets.{on_net}

-- ---- one port, or some of one net and layer

is_net : (o : Option ℕ) (n : ℕ) → (o ≡ Some n) ⊎ (o ≡ Some n → ⊥)
is_net None n = inr (λ e. absurd (cc e))
is_net (Some k) n = elim (cases_eq k n) [ inl e ↦ inl (ap (λ j. Some j) e) | inr ne ↦ inr (λ e. ne (some_same k n e)) ]

held_by : (block : Rectangle) (x y : ℤ) → Covers (block ∷ []) x y → Holds block x y
held_by block x y c = let h = c.holds in subst (λ r. Holds r x y) (sym (contains_one block c.rect c.listed)) h

pub astray_at : (m : NetMap) (c : Claim) (pieces : List Rectangle) → AreCellsOf m c.net c.layer pieces → (o : Option Place) → IfSome o (λ p. IsFirst (Bare (c.block ∷ []) pieces) p.x p.y) → IfSome o (λ p. IsFirst (IsAstray m c) p.x p.y)
astray_at m c pieces are None first = tt
astray_at m c pieces are (Some p) first = record {
  covered = (held_by c.block p.x p.y first.covered.0, λ e. first.covered.1 ((are p.x p.y).1 e));
  first = λ s t off. first.first s t (cover_first c.block [] s t off.0, λ there. off.1 ((are s t).0 there));
}

-- the blocks of some claims cover what these hold
pub none_bare : (m : NetMap) (claims : List Claim) (net : ℕ) (layer : Layer) (pieces : List Rectangle) → All (IsOfNet net layer) claims → AreCellsOf m net layer pieces → IsEmpty (Bare (map (λ (c : Claim). c.block) claims) pieces) → All (Fits m) claims
none_bare m claims net layer pieces of are none = all_from_contains (Fits m) claims (λ c listed x y h.
    let is = All-contains (IsOfNet net layer) claims c of listed in
    elim (is_net (net_of m c.layer x y) c.net) [
      | inl e ↦ e
      | inr ne ↦ absurd (none x y (record { rect = c.block; listed = contains_map (λ (d : Claim). d.block) claims c listed; holds = h }, λ there. ne (moved c is (x) (y) ((are x y).0 there))))
    ])
  where
    moved : (c : Claim) → IsOfNet net layer c → (x y : ℤ) → net_of m layer x y ≡ Some net → net_of m c.layer x y ≡ Some c.net
    moved c is x y e = subst (λ l. net_of m l x y ≡ Some c.net) (sym is.layer) (e ∙ ap (λ n. Some n) (sym is.net))

pub all_fit_none : (m : NetMap) (claims : List Claim) (net : ℕ) (layer : Layer) (pieces : List Rectangle) → All (IsOfNet net layer) claims → AreCellsOf m net layer pieces → All (Fits m) claims → IsEmpty (Bare (map (λ (c : Claim). c.block) claims) pieces)
all_fit_none m claims net layer pieces of are fit x y bare =
    let c = bare.0 in
    let i = in_map (λ (d : Claim). d.block) claims c.rect c.listed in
    let is = All-contains (IsOfNet net layer) claims i.of of i.listed in
    let h : Holds i.of.block x y = subst (λ r. Holds r x y) (sym i.is) c.holds in
    let e : net_of m i.of.layer x y ≡ Some i.of.net = All-contains (Fits m) claims i.of fit i.listed x y h in
    bare.1 ((are x y).1 (subst (λ l. net_of m l x y ≡ Some net) is.layer (e ∙ ap (λ n. Some n) is.net)))

pub one_of_net : (c : Claim) → All (IsOfNet c.net c.layer) (c ∷ [])
one_of_net c = All-cons (IsOfNet c.net c.layer) c [] (record { net = refl; layer = refl }) (All-nil _)

pub fits_alone : (m : NetMap) (c : Claim) (pieces : List Rectangle) → AreCellsOf m c.net c.layer pieces → IsEmpty (Bare (c.block ∷ []) pieces) → Fits m c
fits_alone m c pieces are none = All-head (Fits m) c [] (none_bare m (c ∷ []) c.net c.layer pieces (one_of_net c) are none)

pub astray_answer : (m : NetMap) (c : Claim) (pieces : List Rectangle) → AreCellsOf m c.net c.layer pieces → (r : Result (Option Place) NoMemoryOf) → IfOk r (λ o. IfSome o (λ p. IsFirst (Bare (c.block ∷ []) pieces) p.x p.y)) → IfOk r (λ o. IfSome o (λ p. IsFirst (IsAstray m c) p.x p.y))
astray_answer m c pieces are (Ok o) is = astray_at m c pieces are o is
astray_answer m c pieces are (Err e) is = tt

pub fits_answer : (m : NetMap) (c : Claim) (pieces : List Rectangle) → AreCellsOf m c.net c.layer pieces → (r : Result (Option Place) NoMemoryOf) → IfOk r (λ o. IsNone o → IsEmpty (Bare (c.block ∷ []) pieces)) → IfOk r (λ o. IsNone o → Fits m c)
fits_answer m c pieces are (Ok o) is = λ none. fits_alone m c pieces are (is none)
fits_answer m c pieces are (Err e) is = tt

-- ---- the first that does not fit
pub first_before : {X : Type 0} (P : X → Type 0) (xs ys zs : List X) (x : X) → zs ≡ xs ++ ys → IsFirstNot P xs x → IsFirstNot P zs x
first_before P xs ys zs x e f = record {
  before = f.before;
  after = f.after ++ ys;
  split = e ∙ (ap (λ ws. ws ++ ys) f.split ∙ append_assoc f.before (x ∷ f.after) ys);
  fine = f.fine;
  fails = f.fails;
}

pub first_behind : {X : Type 0} (P : X → Type 0) (xs ys zs : List X) (x : X) → zs ≡ xs ++ ys → All P xs → IsFirstNot P ys x → IsFirstNot P zs x
first_behind P xs ys zs x e fine f = record {
  before = xs ++ f.before;
  after = f.after;
  split = e ∙ (ap (λ ws. xs ++ ws) f.split ∙ sym (append_assoc xs f.before (x ∷ f.after)));
  fine = All-append P xs f.before fine f.fine;
  fails = f.fails;
}

-- ---- nets and ports of the drawing
pub claim_fits : (shapes : Shapes) (m : NetMap) → Maps Plain shapes m → (c : Claim) → IsClaim m c → Fits m c ↔ IsOnItsNet shapes (port_shown m c)
claim_fits shapes m maps c is = (
  λ fits x y h. (on_net shapes m maps (name_of_claim m c) c.layer x y c.net is.net).0 (fits x y h),
  λ on x y h. (on_net shapes m maps (name_of_claim m c) c.layer x y c.net is.net).1 (on x y h),
)

claims_on : (shapes : Shapes) (m : NetMap) → Maps Plain shapes m → (claims : List Claim) → All (IsClaim m) claims → All (Fits m) claims → All (IsOnItsNet shapes) (map (port_shown m) claims)
claims_on shapes m maps claims are fit = all_from_contains (IsOnItsNet shapes) (map (port_shown m) claims) (λ port listed.
    let i = in_map (port_shown m) claims port listed in
    subst (IsOnItsNet shapes) i.is ((claim_fits shapes m maps i.of (All-contains (IsClaim m) claims i.of are i.listed)).0 (All-contains (Fits m) claims i.of fit i.listed)))

pub ports_on : (shapes : Shapes) (m : NetMap) → Maps Plain shapes m → (ports : List Port) (claims : List Claim) → AreClaims m ports claims → All (Fits m) claims → All (IsOnItsNet shapes) ports
ports_on shapes m maps ports claims are fit = subst (All (IsOnItsNet shapes)) are.shown (claims_on shapes m maps claims are.all fit)

-- the port of a claim that does not fit
pub record IsPortOff (shapes : Shapes) (ports : List Port) (name : List ℕ) (x y : ℤ) : Type 0 where
  pub port : Port
  pub first : IsFirstNot (IsOnItsNet shapes) ports port
  pub named : port.pin ≡ name
  pub at : IsFirst (IsOff shapes port) x y

pub port_off : (shapes : Shapes) (m : NetMap) → Maps Plain shapes m → (ports : List Port) (claims : List Claim) (name : List ℕ) (x y : ℤ) → AreClaims m ports claims → IsMisfit m claims name x y → IsPortOff shapes ports name x y
port_off shapes m maps ports claims name x y are off = record {
  port = port_shown m off.claim;
  first = record {
    before = map (port_shown m) off.first.before;
    after = map (port_shown m) off.first.after;
    split = sym are.shown ∙ (ap (λ cs. map (port_shown m) cs) off.first.split ∙ map-append (port_shown m) off.first.before (off.claim ∷ off.first.after));
    fine = claims_on shapes m maps off.first.before before off.first.fine;
    fails = λ on. off.first.fails ((claim_fits shapes m maps off.claim claim).1 on);
  };
  named = off.named;
  at = record {
    covered = (off.at.covered.0, λ on. off.at.covered.1 ((net x y).1 on));
    first = λ s t there. off.at.first s t (there.0, λ e. there.1 ((net s t).0 e));
  };
}
  where
    listed : (c : Claim) → Contains (off.first.before ++ off.claim ∷ off.first.after) c → IsClaim m c
    listed c there = All-contains (IsClaim m) claims c are.all (subst (λ cs. Contains cs c) (sym off.first.split) there)

    claim : IsClaim m off.claim
    claim = listed off.claim (Contains-append_right off.first.before (off.claim ∷ off.first.after) off.claim (contains_here off.claim off.first.after))

    before : All (IsClaim m) off.first.before
    before = all_from_contains (IsClaim m) off.first.before (λ c there. listed c (Contains-append_left off.first.before (off.claim ∷ off.first.after) c there))

    net : (s t : ℤ) → net_of m off.claim.layer s t ≡ Some off.claim.net ↔ IsOnNet shapes (name_of_claim m off.claim) off.claim.layer s t
    net s t = on_net shapes m maps (name_of_claim m off.claim) off.claim.layer s t off.claim.net claim.net

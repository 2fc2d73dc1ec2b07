-- The steps of a comparison give that the macro agrees, or the first difference.
use Rattle.std.proofs.Common.{◌≡◌, ℕ, Bool, true, false, not, cond, Option, Some, None, is_some, OnOk, IfErr, Result, Ok, Err, List, [], ◌∷◌, refl, sym, subst, ap}
use Rattle.std.specs.List.{All, find}
use Rattle.std.proofs.lemmas.List.Elements.{All-nil, All-cons}
use Rattle.cell_num.proofs.Lists.{some_same}
use Rattle.box_geom.specs.Regions.{IsEmpty}
use Rattle.box_geom.specs.declared.shape.Shapes.{Shapes}
use Rattle.scmos_rules.specs.declared.rules.Deck.TheVariants.{Plain}
use Rattle.net_extract.specs.Extraction.{ExtractRefused}
use Rattle.net_extract.specs.NetMaps.{NetMap, Maps, net_named}
use Rattle.net_extract.specs.declared.fault.ExtractFault.{ExtractFault}
use Rattle.net_extract.specs.declared.fault.ExtractFault.TheVariants as fault
use Rattle.lef_read.specs.declared.cell.LefPin.{LefPin}
use Rattle.lef_read.specs.declared.cell.Macro.{Macro}
use Rattle.lef_read.specs.Agreement.{Agrees, HasLabel, ports_of}
use Rattle.lef_read.specs.Differences.{DiffersBy, HasNetlist, IsBareMetal, IsFirstNot}
use Rattle.lef_read.specs.Lookups.{differs_as, lacks_net, IsLackOf, AreClaims, Fits, IsMisfitBy, IsBareBy}
use Rattle.lef_read.specs.declared.differ.Differ.{Differ}
use Rattle.lef_read.specs.declared.differ.Differ.TheVariants.{Extract, NoLabel, Port as PortOff, Bare, NoMemory}
use Rattle.lef_read.specs.declared.claim.Claim.{Claim}
use Rattle.lef_read.proofs.Claims.{ports_on, port_off}
use Rattle.lef_read.proofs.BareMetal.{all_shown}
use Rattle.lef_read.proofs.Nets.{label_named, label_unnamed}
use Rattle.lef_read.proofs.Refusals.{mapped_accepted}

-- ---- no netlist
pub extract_differs : (shapes : Shapes) (cell : Macro) (f : ExtractFault) → ExtractRefused Plain shapes f → DiffersBy shapes cell (differs_as f)
extract_differs shapes cell (fault.TooMany count) r = (λ e. absurd (cc e), r)
extract_differs shapes cell (fault.OddDevice x y) r = (λ e. absurd (cc e), r)
extract_differs shapes cell (fault.Stray name) r = (λ e. absurd (cc e), r)
extract_differs shapes cell (fault.Short one other) r = (λ e. absurd (cc e), r)
extract_differs shapes cell (fault.Split name) r = (λ e. absurd (cc e), r)
extract_differs shapes cell fault.NoMemory r = tt

-- ---- labels
some_is : (o : Option ℕ) → not (is_some o) ≡ false → (n : ℕ) × (o ≡ Some n)
some_is (Some n) e = (n, refl)
some_is None e = absurd (cc e)

none_is : (o : Option ℕ) → not (is_some o) ≡ true → o ≡ None
none_is (Some n) e = absurd (cc e)
none_is None e = refl

has_label : (shapes : Shapes) (m : NetMap) → Maps Plain shapes m → (pin : LefPin) → lacks_net m pin ≡ false → HasLabel shapes pin
has_label shapes m maps pin e = let (n, is) = some_is (net_named m pin.name) e in label_named shapes m maps pin.name n is

-- the first item that passes a test
first_found : {X : Type 0} (P : X → Type 0) (p : X → Bool) (xs : List X) (x : X) → ((z : X) → p z ≡ false → P z) → ((z : X) → p z ≡ true → P z → ⊥) → find p xs ≡ Some x → IsFirstNot P xs x
first_found P p [] x pass fail e = absurd cc
first_found {X} P p (y ∷ ys) x pass fail e = by (p y) refl e (λ f. first_found P p ys x pass fail f)
  where
    by : (b : Bool) → p y ≡ b → cond b (Some y) (find p ys) ≡ Some x → (find p ys ≡ Some x → IsFirstNot P ys x) → IsFirstNot P (y ∷ ys) x
    by true q f rest =
        let same : y ≡ x = some_same y x f in
        record { before = []; after = ys; split = ap (λ z. z ∷ ys) same; fine = All-nil P; fails = subst (λ z. P z → ⊥) same (fail y q) }
    by false q f rest =
        let r = rest f in
        record { before = y ∷ r.before; after = r.after; split = ap (λ zs. y ∷ zs) r.split; fine = All-cons P y r.before (pass y q) r.fine; fails = r.fails }

none_found : {X : Type 0} (P : X → Type 0) (p : X → Bool) (xs : List X) → ((z : X) → p z ≡ false → P z) → find p xs ≡ None → All P xs
none_found P p [] pass e = All-nil P
none_found {X} P p (y ∷ ys) pass e = by (p y) refl e (λ f. none_found P p ys pass f)
  where
    by : (b : Bool) → p y ≡ b → cond b (Some y) (find p ys) ≡ None → (find p ys ≡ None → All P ys) → All P (y ∷ ys)
    by true q f rest = absurd (cc f)
    by false q f rest = All-cons P y ys (pass y q) (rest f)

pub all_labelled : (shapes : Shapes) (m : NetMap) → Maps Plain shapes m → (pins : List LefPin) → find (lacks_net m) pins ≡ None → All (HasLabel shapes) pins
all_labelled shapes m maps pins e = none_found (HasLabel shapes) (lacks_net m) pins (has_label shapes m maps) e

pub lack_differs : (shapes : Shapes) (m : NetMap) → Maps Plain shapes m → (cell : Macro) (d : Differ) → IsLackOf (find (lacks_net m) cell.pins) d → DiffersBy shapes cell d
lack_differs shapes m maps cell d lack = by (find (lacks_net m) cell.pins) refl d lack
  where
    by : (o : Option LefPin) → find (lacks_net m) cell.pins ≡ o → (d : Differ) → IsLackOf o d → DiffersBy shapes cell d
    by None e d l = absurd l
    by (Some pin) e NoMemory l = tt
    by (Some pin) e (NoLabel name) l = record {
      netlist = mapped_accepted shapes m maps;
      pin = pin;
      first = first_found (HasLabel shapes) (lacks_net m) cell.pins pin (has_label shapes m maps) (λ z q label. label_unnamed shapes m maps z.name (none_is (net_named m z.name) q) label) e;
      named = sym l;
    }
    by (Some pin) e (Extract f) l = absurd l
    by (Some pin) e (PortOff name x y) l = absurd l
    by (Some pin) e (Bare layer x y) l = absurd l

-- ---- ports
pub port_differs : (shapes : Shapes) (m : NetMap) → Maps Plain shapes m → (cell : Macro) (claims : List Claim) (d : Differ) → find (lacks_net m) cell.pins ≡ None → AreClaims m (ports_of cell.pins) claims → IsMisfitBy m claims d → DiffersBy shapes cell d
port_differs shapes m maps cell claims (PortOff name x y) none are off =
    let o = port_off shapes m maps (ports_of cell.pins) claims name x y are off in
    record { netlist = mapped_accepted shapes m maps; labels = all_labelled shapes m maps cell.pins none; port = o.port; first = o.first; named = o.named; at = o.at }
port_differs shapes m maps cell claims NoMemory none are off = tt
port_differs shapes m maps cell claims (Extract f) none are off = absurd off
port_differs shapes m maps cell claims (NoLabel name) none are off = absurd off
port_differs shapes m maps cell claims (Bare layer x y) none are off = absurd off

-- ---- metal
pub bare_differs : (shapes : Shapes) (m : NetMap) → Maps Plain shapes m → (cell : Macro) (claims : List Claim) (d : Differ) → find (lacks_net m) cell.pins ≡ None → AreClaims m (ports_of cell.pins) claims → All (Fits m) claims → IsBareBy shapes cell d → DiffersBy shapes cell d
bare_differs shapes m maps cell claims (Bare layer x y) none are fit bare = record {
  netlist = mapped_accepted shapes m maps;
  labels = all_labelled shapes m maps cell.pins none;
  ports = ports_on shapes m maps (ports_of cell.pins) claims are fit;
  at = bare.at;
  on = bare.on;
}
bare_differs shapes m maps cell claims NoMemory none are fit bare = tt
bare_differs shapes m maps cell claims (Extract f) none are fit bare = absurd bare
bare_differs shapes m maps cell claims (NoLabel name) none are fit bare = absurd bare
bare_differs shapes m maps cell claims (PortOff name x y) none are fit bare = absurd bare

pub agrees : (shapes : Shapes) (m : NetMap) → Maps Plain shapes m → (cell : Macro) (claims : List Claim) → find (lacks_net m) cell.pins ≡ None → AreClaims m (ports_of cell.pins) claims → All (Fits m) claims → IsEmpty (IsBareMetal shapes cell) → Agrees shapes cell
agrees shapes m maps cell claims none are fit bare = record {
  labels = all_labelled shapes m maps cell.pins none;
  ports = ports_on shapes m maps (ports_of cell.pins) claims are fit;
  rest = all_shown shapes cell bare;
}

-- ---- the last step's answer is the whole one's
pub netlist_answer : (shapes : Shapes) (m : NetMap) → Maps Plain shapes m → (r : Result (Unit {0}) Differ) → OnOk r (HasNetlist shapes)
netlist_answer shapes m maps (Ok x) = mapped_accepted shapes m maps
netlist_answer shapes m maps (Err e) = tt

pub agrees_answer : (shapes : Shapes) (m : NetMap) → Maps Plain shapes m → (cell : Macro) (claims : List Claim) (r : Result (Unit {0}) Differ) → find (lacks_net m) cell.pins ≡ None → AreClaims m (ports_of cell.pins) claims → All (Fits m) claims → OnOk r (IsEmpty (IsBareMetal shapes cell)) → OnOk r (Agrees shapes cell)
agrees_answer shapes m maps cell claims (Ok x) none are fit bare = agrees shapes m maps cell claims none are fit bare
agrees_answer shapes m maps cell claims (Err e) none are fit bare = tt

pub bare_answer : (shapes : Shapes) (m : NetMap) → Maps Plain shapes m → (cell : Macro) (claims : List Claim) (r : Result (Unit {0}) Differ) → find (lacks_net m) cell.pins ≡ None → AreClaims m (ports_of cell.pins) claims → All (Fits m) claims → IfErr r (IsBareBy shapes cell) → IfErr r (DiffersBy shapes cell)
bare_answer shapes m maps cell claims (Ok x) none are fit is = tt
bare_answer shapes m maps cell claims (Err d) none are fit is = bare_differs shapes m maps cell claims d none are fit is

pub ruleset answer_rules = (extract_differs, lack_differs, port_differs, netlist_answer, agrees_answer, bare_answer)

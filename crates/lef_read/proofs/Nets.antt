-- What is looked up by label and by cell is what the labels and the conductor of the drawing say.
use Rattle.std.proofs.Common.{◌≡◌, ◌↔◌, ℕ, ℤ, Bool, true, Option, Some, None, List, [], ◌∷◌, inl, inr, refl, sym, subst, ◌∙◌}
use Rattle.std.specs.List.{AllZip, Contains, find}
use Rattle.std.specs.Option.{option_map}
use Rattle.std.specs.Str.{bytes_eq}
use Rattle.std.proofs.lemmas.Slice.Eq.{bytes_eq-Decides}
use Rattle.cell_num.proofs.Lists.{contains_none, contains_cons, contains_here, contains_there, some_same}
use Rattle.box_geom.proofs.Filters.{contains_filter}
use Rattle.box_geom.specs.Touching.{Cell}
use Rattle.box_geom.specs.declared.layer.Layer.{Layer}
use Rattle.box_geom.specs.declared.shape.Label.{Label}
use Rattle.box_geom.specs.declared.shape.Shape.{Shape}
use Rattle.box_geom.specs.declared.shape.Shapes.{Shapes}
use Rattle.scmos_rules.specs.declared.rules.Deck.TheVariants.{Plain}
use Rattle.net_extract.specs.Labels.{is_conductor, conductor_labels, cells_round, IsFirstConductor, Belongs, IsNetLabel, IsNamed}
use Rattle.net_extract.specs.NetMaps.{NetMap, Maps, net_named, net_of}
use Rattle.net_extract.specs.Nets.{layer_of, Site, Conducts}
use Rattle.net_extract.specs.declared.piece.Conductor.{Conductor}
use Rattle.net_extract.specs.declared.piece.Conductor.TheVariants.{PDiffusion, NDiffusion, Poly, Metal1, Metal2}
use Rattle.net_extract.specs.Numbering.{IsInNet}
use Rattle.net_extract.specs.declared.naming.NetLabel.{NetLabel}
use Rattle.net_extract.proofs.Agreeing.{label_held}
use Rattle.net_extract.proofs.Belonging.{one_site}
use Rattle.net_extract.proofs.ByName.{one_net, label_found}
use Rattle.net_extract.proofs.Finding.{found}
use Rattle.net_extract.proofs.Siding.{move_net, same_number}
use Rattle.lef_read.specs.Agreement.{IsLabel, IsOnNet}

-- ---- labels that belong to a conductor cell are on a layer of conductors
conductor_layer : (k : Conductor) → is_conductor (layer_of k) ≡ true
conductor_layer PDiffusion = refl
conductor_layer NDiffusion = refl
conductor_layer Poly = refl
conductor_layer Metal1 = refl
conductor_layer Metal2 = refl

on_wiring : (s : List Shape) (layer : Layer) (cells : List Cell) (a : Site) → IsFirstConductor s layer cells a → is_conductor layer ≡ true
on_wiring s layer [] a first = absurd first
on_wiring s layer (c ∷ cs) a (inl at) = subst (λ l. is_conductor l ≡ true) at.on_layer (conductor_layer a.kind)
on_wiring s layer (c ∷ cs) a (inr later) = on_wiring s layer cs a later.1

belonging_conducts : (s : List Shape) (layer : Layer) (cells : List Cell) (a : Site) → IsFirstConductor s layer cells a → Conducts s a
belonging_conducts s layer [] a first = absurd first
belonging_conducts s layer (c ∷ cs) a (inl at) = at.conducts
belonging_conducts s layer (c ∷ cs) a (inr later) = belonging_conducts s layer cs a later.1

-- the one that stands opposite, of two lists that are put side by side
record Facing {X Y : Type 0} (R : X → Y → Type 0) (ys : List Y) (x : X) : Type 0 where
  it : Y
  listed : Contains ys it
  is : R x it

facing : {X Y : Type 0} (R : X → Y → Type 0) (xs : List X) (ys : List Y) (x : X) → AllZip R xs ys → Contains xs x → Facing R ys x
facing R [] ys x z c = absurd (contains_none x c)
facing R (w ∷ ws) [] x z c = absurd z
facing R (w ∷ ws) (y ∷ ys) x z c =
    elim (contains_cons w ws x c) [
      | inl e ↦ record { it = y; listed = contains_here y ys; is = subst (λ v. R v y) e z.0 }
      | inr later ↦ let f = facing R ws ys x z.1 later in record { it = f.it; listed = contains_there y ys f.it f.listed; is = f.is }
    ]

-- ---- names and nets

-- the held label of a name that stands in the net of a site
record Held_at (shapes : Shapes) (firsts : List Site) (held : List NetLabel) (name : List ℕ) (a : Site) : Type 0 where
  it : NetLabel
  listed : Contains held it
  called : it.name ≡ name
  net : IsInNet Plain shapes.rects firsts it.net a

held_at : (shapes : Shapes) (m : NetMap) (maps : Maps Plain shapes m) (name : List ℕ) (a : Site) → IsNamed Plain shapes name a → Held_at shapes maps.firsts maps.held name a
held_at shapes m maps name a named =
    let wiring : Contains (conductor_labels shapes.labels) named.label = contains_filter (λ (l : Label). is_conductor l.layer) shapes.labels named.label named.listed (on_wiring shapes.rects named.label.layer (cells_round named.label.x named.label.y) named.at named.belongs) in
    let f = facing (IsNetLabel Plain shapes.rects maps.firsts) (conductor_labels shapes.labels) maps.held named.label maps.has.labels wiring in
    let site : f.is.site ≡ named.at = one_site shapes.rects named.label f.is.site named.at f.is.belongs named.belongs in
    record {
      it = f.it;
      listed = f.listed;
      called = f.is.name ∙ named.reads;
      net = move_net Plain shapes.rects maps.firsts f.it.net named.at a (subst (IsInNet Plain shapes.rects maps.firsts f.it.net) site f.is.net) named.same;
    }

-- the net of a name is the one that a site of the name is in
pub net_of_named : (shapes : Shapes) (m : NetMap) (maps : Maps Plain shapes m) (name : List ℕ) (a : Site) → IsNamed Plain shapes name a → (n : ℕ) × (net_named m name ≡ Some n) × IsInNet Plain shapes.rects maps.firsts n a
net_of_named shapes m maps name a named =
    let h = held_at shapes m maps name a named in
    (h.it.net, maps.labels name ∙ label_found maps.held (one_net maps.held maps.agreed.no_split) name h.it h.listed h.called, h.net)

-- the net that a name has
record Naming (shapes : Shapes) (firsts : List Site) (name : List ℕ) (n : ℕ) : Type 0 where
  label : Label
  listed : Contains shapes.labels label
  reads : label.name ≡ name
  at : Site
  belongs : Belongs shapes.rects label at
  net : IsInNet Plain shapes.rects firsts n at

naming : (shapes : Shapes) (m : NetMap) (maps : Maps Plain shapes m) (name : List ℕ) (n : ℕ) → net_named m name ≡ Some n → Naming shapes maps.firsts name n
naming shapes m maps name n e = by (find named maps.held) refl (sym (maps.labels name) ∙ e)
  where
    named : NetLabel → Bool
    named h = bytes_eq h.name name

    by : (o : Option NetLabel) → find named maps.held ≡ o → option_map (λ (h : NetLabel). h.net) o ≡ Some n → Naming shapes maps.firsts name n
    by None f g = absurd (cc g)
    by (Some h) f g =
        let p = found named maps.held h f in
        let (l, listed, is) = label_held Plain shapes.rects maps.firsts shapes.labels maps.held h maps.has.labels p.listed in
        record {
          label = l;
          listed = listed;
          reads = sym is.name ∙ (bytes_eq-Decides h.name name).0 p.passes;
          at = is.site;
          belongs = is.belongs;
          net = subst (λ k. IsInNet Plain shapes.rects maps.firsts k is.site) (some_same h.net n g) is.net;
        }

named_by : (shapes : Shapes) (firsts : List Site) (name : List ℕ) (n : ℕ) (a : Site) → Naming shapes firsts name n → IsInNet Plain shapes.rects firsts n a → IsNamed Plain shapes name a
named_by shapes firsts name n a g net = record {
  label = g.label;
  listed = g.listed;
  reads = g.reads;
  at = g.at;
  belongs = g.belongs;
  same = same_number Plain shapes.rects firsts n n g.at a refl g.net net;
}

pub label_named : (shapes : Shapes) (m : NetMap) → Maps Plain shapes m → (name : List ℕ) (n : ℕ) → net_named m name ≡ Some n → IsLabel shapes name
label_named shapes m maps name n e = let g = naming shapes m maps name n e in record { site = g.at; named = named_by shapes maps.firsts name n g.at g g.net }

pub label_unnamed : (shapes : Shapes) (m : NetMap) → Maps Plain shapes m → (name : List ℕ) → net_named m name ≡ None → IsLabel shapes name → ⊥
label_unnamed shapes m maps name e label = let (n, is, net) = net_of_named shapes m maps name label.site label.named in absurd (cc (sym e ∙ is))

pub on_net : (shapes : Shapes) (m : NetMap) → Maps Plain shapes m → (name : List ℕ) (layer : Layer) (x y : ℤ) (n : ℕ) → net_named m name ≡ Some n → net_of m layer x y ≡ Some n ↔ IsOnNet shapes name layer x y
on_net shapes m maps name layer x y n e = (
  λ there.
      let at = (maps.nets layer x y n).0 there in
      record { site = at.site; conductor = at.conductor; named = named_by shapes maps.firsts name n at.site (naming shapes m maps name n e) at.net },
  λ on.
      let (k, is, net) = net_of_named shapes m maps name on.site on.named in
      let same : k ≡ n = some_same k n (sym is ∙ e) in
      (maps.nets layer x y n).1 (record { site = on.site; conductor = on.conductor; net = subst (λ j. IsInNet Plain shapes.rects maps.firsts j on.site) same net }),
)

-- A net goes by the name of each of its labels.
use Rattle.std.proofs.Common.{◌≡◌, ℕ, ◌<◌, ◌==◌, ◌&&◌, not, Bool, true, false, List, [], length, get_or, Option, Some, None, is_some, inl, inr, arith, refl, sym, subst, ap, ◌∙◌}
use Rattle.std.specs.List.{All, Contains, find, range_with_len}
use Rattle.std.specs.Option.{option_map}
use Rattle.std.specs.Str.{bytes_eq}
use Rattle.std.proofs.lemmas.Bool.{cases_Bool}
use Rattle.std.proofs.lemmas.Bool.Decides.{Decides-eqb}
use Rattle.std.proofs.lemmas.List.FromFn.{get_or-map-range_with_len, get_or-range_with_len, length-map-range_with_len, length-range_with_len}
use Rattle.std.proofs.lemmas.List.Elements.{Contains-get_or}
use Rattle.std.proofs.lemmas.Slice.Eq.{bytes_eq-Decides}
use Rattle.cell_num.proofs.Lists.{all_from_contains, some_same}
use Rattle.box_geom.specs.Regions.{IsBlock}
use Rattle.box_geom.specs.declared.shape.Shapes.{Shapes}
use Rattle.scmos_rules.specs.declared.rules.Deck.TheVariants.{Plain}
use Rattle.net_extract.specs.NetMaps.{NetMap, Maps, net_named}
use Rattle.net_extract.specs.Naming.{label_of, name_of, name_or_number, other_of, other_than, short_net}
use Rattle.net_extract.specs.declared.naming.NetLabel.{NetLabel}
use Rattle.net_extract.proofs.Filling.{and_true}
use Rattle.net_extract.proofs.Finding.{found, found_none}
use Rattle.lef_read.specs.declared.cell.LefPin.{LefPin}
use Rattle.lef_read.specs.declared.cell.LefRect.{LefRect}
use Rattle.lef_read.specs.Agreement.{port_of}
use Rattle.lef_read.specs.Lookups.{GoesByName, IsClaim, IsNetOf, lacks_net, port_shown}
use Rattle.lef_read.specs.declared.claim.Claim.{Claim}

in_range : (count n : ℕ) → n < count → Contains (range_with_len 0 count) n
in_range count n less = (n, omega (arith, less, length-range_with_len 0 count), omega (arith, get_or-range_with_len 0 count n n less))

-- where no net has two labels, the labels of a net have one name
one_name : (held : List NetLabel) (count : ℕ) → short_net held count ≡ None → (n : ℕ) → n < count → (h : NetLabel) → Contains held h → h.net ≡ n → label_of n held ≡ Some h.name
one_name held count no_short n less h listed is = by (find (λ (k : NetLabel). k.net == n) held) refl
  where
    mine : (h.net == n) ≡ true
    mine = (Decides-eqb h.net n).1 is

    not_short : is_some (other_of n held) ≡ true → ⊥
    not_short e = found_none (λ k. is_some (other_of k held)) (range_with_len 0 count) no_short n (in_range count n less) e

    by : (o : Option NetLabel) → find (λ (k : NetLabel). k.net == n) held ≡ o → option_map (λ (k : NetLabel). k.name) o ≡ Some h.name
    by None e = absurd (found_none (λ (k : NetLabel). k.net == n) held e h listed mine)
    by (Some w) e = elim (cases_Bool (bytes_eq h.name w.name)) [
      | inl same ↦ ap (λ z. Some z) (sym ((bytes_eq-Decides h.name w.name).0 same))
      | inr differs ↦ absurd (not_short (other w e differs))
    ]
      where
        other : (w : NetLabel) → find (λ (k : NetLabel). k.net == n) held ≡ Some w → bytes_eq h.name w.name ≡ false → is_some (other_of n held) ≡ true
        other w e differs = subst (λ o. is_some (other_than o n held) ≡ true) (sym (ap (λ o. option_map (λ (k : NetLabel). k.name) o) e)) (some (find (λ (k : NetLabel). (k.net == n) && not (bytes_eq k.name w.name)) held) refl)
          where
            some : (o : Option NetLabel) → find (λ (k : NetLabel). (k.net == n) && not (bytes_eq k.name w.name)) held ≡ o → is_some (option_map (λ (k : NetLabel). k.name) o) ≡ true
            some (Some k) f = refl
            some None f = absurd (found_none (λ (k : NetLabel). (k.net == n) && not (bytes_eq k.name w.name)) held f h listed (and_true (h.net == n) (not (bytes_eq h.name w.name)) mine (rw differs refl)))

pub name_back : (shapes : Shapes) (m : NetMap) → Maps Plain shapes m → (name : List ℕ) (n : ℕ) → net_named m name ≡ Some n → n < length m.names → get_or m.names n [] ≡ name
name_back shapes m maps name n e within = by (find named maps.held) refl (sym (maps.labels name) ∙ e)
  where
    named : NetLabel → Bool
    named h = bytes_eq h.name name

    less : n < length maps.firsts
    less = subst (λ k. n < k) (ap length maps.names ∙ length-map-range_with_len (name_of maps.held) 0 (length maps.firsts)) within

    by : (o : Option NetLabel) → find named maps.held ≡ o → option_map (λ (h : NetLabel). h.net) o ≡ Some n → get_or m.names n [] ≡ name
    by None f g = absurd (cc g)
    by (Some h) f g =
        let p = found named maps.held h f in
        let label : label_of n maps.held ≡ Some h.name = one_name maps.held (length maps.firsts) maps.agreed.no_short n less h p.listed (some_same h.net n g) in
        ap (λ ns. get_or ns n []) maps.names
        ∙ (get_or-map-range_with_len (name_of maps.held) 0 (length maps.firsts) n n [] less (omega arith)
        ∙ (ap (name_or_number n) label ∙ (bytes_eq-Decides h.name name).0 p.passes))

pub goes_by_name : (shapes : Shapes) (m : NetMap) → Maps Plain shapes m → (pins : List LefPin) → All (GoesByName m) pins
goes_by_name shapes m maps pins = all_from_contains (GoesByName m) pins (λ pin c n e within. record { within = within; net = e; name = name_back shapes m maps pin.name n e within })

-- ---- ports of a pin as claims
pub is_claim : (m : NetMap) (pin : LefPin) (net : ℕ) (c : Claim) → IsNetOf m pin net → c.net ≡ net → IsBlock c.block → IsClaim m c
is_claim m pin net c of e block = record {
  within = subst (λ k. k < length m.names) (sym e) of.within;
  net = subst (λ k. net_named m (get_or m.names k []) ≡ Some k) (sym e) (ap (net_named m) of.name ∙ of.net);
  block = block;
}

pub shown_is : (m : NetMap) (pin : LefPin) (net : ℕ) (r : LefRect) → IsNetOf m pin net → port_shown m (record { net = net; layer = r.layer; block = r.rect }) ≡ port_of pin.name r
shown_is m pin net r of = rw of.name refl

-- no pin lacks a net where none is found
pub labelled_at : (m : NetMap) (pins : List LefPin) → find (lacks_net m) pins ≡ None → (i : ℕ) (d : LefPin) → i < length pins → lacks_net m (get_or pins i d) ≡ false
labelled_at m pins e i d less = by (lacks_net m (get_or pins i d)) refl
  where
    by : (b : Bool) → lacks_net m (get_or pins i d) ≡ b → lacks_net m (get_or pins i d) ≡ false
    by false f = f
    by true f = absurd (found_none (lacks_net m) pins e (get_or pins i d) (Contains-get_or pins i d less) f)

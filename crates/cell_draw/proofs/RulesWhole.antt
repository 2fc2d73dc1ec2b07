-- The shapes of a layout obey the rules.
use Rattle.std.proofs.Common.{◌≡◌, ℕ, ◌≤◌, Bool, true, false, refl, arith}
use Rattle.std.specs.List.{Contains}
use Rattle.std.proofs.lemmas.Bool.{false≢true}
use Rattle.std.proofs.lemmas.Int.{ints}
use Rattle.std.proofs.lemmas.List.Elements.{All-contains}
use Rattle.std.proofs.lemmas.List.Sums.{AllPass-from_list_all}
use Rattle.box_geom.specs.Rectangle.{Rectangle, IsProper}
use Rattle.box_geom.specs.Layers.{rects_on}
use Rattle.box_geom.specs.declared.layer.Layer.TheVariants.{Well, Active, Poly, Contact as ContactCut, Metal1, Via, Metal2}
use Rattle.scmos_rules.specs.declared.rules.Deck.TheVariants.{Plain}
use Rattle.scmos_rules.specs.declared.number.RuleNo.{RuleNo}
use Rattle.scmos_rules.specs.declared.number.RuleNo.TheVariants.{N1_1, N2_1, N2_2, N2_3, N2_4, N3_1, N3_2, N3_3, N3_4, N3_5, N4_2, N5_1, N5_2, N5_3, N5_4, N6_2, N7_1, N7_2, N7_3, N8_1, N8_2, N8_3, N8_4, N8_5, N9_1, N9_2, N9_3}
use Rattle.box_geom.specs.Regions.{IsEmpty}
use Rattle.scmos_rules.specs.Numbers.{numbers_of}
use Rattle.scmos_rules.specs.Rules.{Fails, Obeys}
use Rattle.scmos_rules.specs.Conditions.{IsWide, IsSquare}
use Rattle.scmos_rules.proofs.Widths.{width}
use Rattle.scmos_rules.proofs.Spacings.{spacing_by_touch}
use Rattle.scmos_rules.proofs.Sizes.{size}
use Rattle.cell_draw.specs.declared.layout.Layout.{Layout}
use Rattle.cell_draw.specs.Shapes.{well, shapes_of}
use Rattle.cell_draw.specs.Laid.{IsLaid}
use Rattle.cell_draw.proofs.RulesPieces.{all_pieces, touching, alone}
use Rattle.cell_draw.proofs.RulesActive.{IsArea, area_rect, on_active, area_wide, area_pairs}
use Rattle.cell_draw.proofs.RulesPoly.{IsPiece, piece_rect, on_poly, piece_wide, piece_pairs}
use Rattle.cell_draw.proofs.RulesPoly as poly
use Rattle.cell_draw.proofs.RulesContacts.{IsCut, cut_rect, on_contact, cut_square, cut_proper, OneCut, cut_pairs}
use Rattle.cell_draw.proofs.RulesMetal1.{IsMetal, metal_rect, metal_net, on_metal1, metal_wide, metal_pairs}
use Rattle.cell_draw.proofs.RulesVias.{IsViaPlace, via_rect, on_via, via_square, via_proper, OneVia, via_pairs}
use Rattle.cell_draw.proofs.RulesMetal2.{IsSignal, branch_rect, on_metal2, branch_wide, branch_pairs}
use Rattle.cell_draw.proofs.RulesMetal2 as over
use Rattle.cell_draw.proofs.RulesCovers.{on_well}
use Rattle.cell_draw.proofs.RulesAround.{n2_3, n4_2, n5_2, n5_4, n6_2, n7_3, n8_3, n8_4, n8_5, n9_3}
use Rattle.cell_draw.proofs.RulesGates.{n3_3, n3_4, n3_5}

proper : (v : ℕ) (r : Rectangle) → 1 ≤ v → IsWide v r → IsProper r
proper v r least h = omega (arith, ints)

n1_1 : (l : Layout) (w : IsLaid l) → IsEmpty (Fails Plain N1_1 (shapes_of l))
n1_1 l w =
    let rs = rects_on Well (shapes_of l) in
    let fr = w.frame in
    let wide : IsWide 24 (well l.frame).rect = omega (arith, ints) in
    width rs 24 (all_pieces (λ (u : Unit {0}). Unit {0}) (λ u. (well l.frame).rect) rs (IsWide 24) (on_well l) (λ u h. wide))

n2_1 : (l : Layout) (w : IsLaid l) → IsEmpty (Fails Plain N2_1 (shapes_of l))
n2_1 l w = let rs = rects_on Active (shapes_of l) in width rs 6 (all_pieces (IsArea l) (area_rect l) rs (IsWide 6) (on_active l) (area_wide l w))

n2_2 : (l : Layout) (w : IsLaid l) → IsEmpty (Fails Plain N2_2 (shapes_of l))
n2_2 l w =
    let rs = rects_on Active (shapes_of l) in
    spacing_by_touch rs 6 (touching (IsArea l) (area_rect l) (λ a b. Unit {0}) 6 rs (on_active l) (λ a h. proper 6 (area_rect l a) (omega arith) (area_wide l w a h)) (area_pairs l w))

n3_1 : (l : Layout) (w : IsLaid l) → IsEmpty (Fails Plain N3_1 (shapes_of l))
n3_1 l w = let rs = rects_on Poly (shapes_of l) in width rs 4 (all_pieces (IsPiece l) (piece_rect l) rs (IsWide 4) (on_poly l) (piece_wide l w))

n3_2 : (l : Layout) (w : IsLaid l) → IsEmpty (Fails Plain N3_2 (shapes_of l))
n3_2 l w =
    let rs = rects_on Poly (shapes_of l) in
    spacing_by_touch rs 6 (touching (IsPiece l) (piece_rect l) poly.SameNet 6 rs (on_poly l) (λ a h. proper 4 (piece_rect l a) (omega arith) (piece_wide l w a h)) (piece_pairs l w))

n5_1 : (l : Layout) (w : IsLaid l) → IsEmpty (Fails Plain N5_1 (shapes_of l))
n5_1 l w =
    let rs = rects_on ContactCut (shapes_of l) in
    size rs 4 (all_pieces (IsCut l) (cut_rect l) rs (IsSquare 4) (on_contact l) (λ a h. cut_square l a)) (alone (IsCut l) (cut_rect l) 6 rs (omega arith) (on_contact l) (cut_pairs l w))

n5_3 : (l : Layout) (w : IsLaid l) → IsEmpty (Fails Plain N5_3 (shapes_of l))
n5_3 l w =
    let rs = rects_on ContactCut (shapes_of l) in
    spacing_by_touch rs 6 (touching (IsCut l) (cut_rect l) (OneCut l) 6 rs (on_contact l) (λ a h. cut_proper l a) (cut_pairs l w))

n7_1 : (l : Layout) (w : IsLaid l) → IsEmpty (Fails Plain N7_1 (shapes_of l))
n7_1 l w = let rs = rects_on Metal1 (shapes_of l) in width rs 6 (all_pieces (IsMetal l) (metal_rect l) rs (IsWide 6) (on_metal1 l) (metal_wide l w))

n7_2 : (l : Layout) (w : IsLaid l) → IsEmpty (Fails Plain N7_2 (shapes_of l))
n7_2 l w =
    let rs = rects_on Metal1 (shapes_of l) in
    spacing_by_touch rs 6 (touching (IsMetal l) (metal_rect l) (λ a b. metal_net l a ≡ metal_net l b) 6 rs (on_metal1 l) (λ a h. proper 6 (metal_rect l a) (omega arith) (metal_wide l w a h)) (metal_pairs l w))

n8_1 : (l : Layout) (w : IsLaid l) → IsEmpty (Fails Plain N8_1 (shapes_of l))
n8_1 l w =
    let rs = rects_on Via (shapes_of l) in
    size rs 4 (all_pieces (IsViaPlace l) (via_rect l) rs (IsSquare 4) (on_via l) (λ a h. via_square l a)) (alone (IsViaPlace l) (via_rect l) 6 rs (omega arith) (on_via l) (via_pairs l w))

n8_2 : (l : Layout) (w : IsLaid l) → IsEmpty (Fails Plain N8_2 (shapes_of l))
n8_2 l w =
    let rs = rects_on Via (shapes_of l) in
    spacing_by_touch rs 6 (touching (IsViaPlace l) (via_rect l) (OneVia l) 6 rs (on_via l) (λ a h. via_proper l a) (via_pairs l w))

n9_1 : (l : Layout) (w : IsLaid l) → IsEmpty (Fails Plain N9_1 (shapes_of l))
n9_1 l w = let rs = rects_on Metal2 (shapes_of l) in width rs 6 (all_pieces (IsSignal l) (branch_rect l) rs (IsWide 6) (on_metal2 l) (branch_wide l w))

n9_2 : (l : Layout) (w : IsLaid l) → IsEmpty (Fails Plain N9_2 (shapes_of l))
n9_2 l w =
    let rs = rects_on Metal2 (shapes_of l) in
    spacing_by_touch rs 8 (touching (IsSignal l) (branch_rect l) over.SameNet 8 rs (on_metal2 l) (λ a h. proper 6 (branch_rect l a) (omega arith) (branch_wide l w a h)) (branch_pairs l w))

-- every rule but the one on taps
abbrev is_plain : RuleNo → Bool
is_plain N2_4 = false
is_plain rule = true

plain_rules : (rule : RuleNo) → Contains (numbers_of Plain) rule → is_plain rule ≡ true
plain_rules rule listed =
    All-contains (λ r. is_plain r ≡ true) (numbers_of Plain) rule (AllPass-from_list_all is_plain (numbers_of Plain) refl) listed

each : (l : Layout) (w : IsLaid l) (rule : RuleNo) → Contains (numbers_of Plain) rule → IsEmpty (Fails Plain rule (shapes_of l))
each l w N1_1 listed = n1_1 l w
each l w N2_1 listed = n2_1 l w
each l w N2_2 listed = n2_2 l w
each l w N2_3 listed = n2_3 l w
each l w N2_4 listed = absurd (false≢true (plain_rules N2_4 listed))
each l w N3_1 listed = n3_1 l w
each l w N3_2 listed = n3_2 l w
each l w N3_3 listed = n3_3 l w
each l w N3_4 listed = n3_4 l w
each l w N3_5 listed = n3_5 l w
each l w N4_2 listed = n4_2 l w
each l w N5_1 listed = n5_1 l w
each l w N5_2 listed = n5_2 l w
each l w N5_3 listed = n5_3 l w
each l w N5_4 listed = n5_4 l w
each l w N6_2 listed = n6_2 l w
each l w N7_1 listed = n7_1 l w
each l w N7_2 listed = n7_2 l w
each l w N7_3 listed = n7_3 l w
each l w N8_1 listed = n8_1 l w
each l w N8_2 listed = n8_2 l w
each l w N8_3 listed = n8_3 l w
each l w N8_4 listed = n8_4 l w
each l w N8_5 listed = n8_5 l w
each l w N9_1 listed = n9_1 l w
each l w N9_2 listed = n9_2 l w
each l w N9_3 listed = n9_3 l w

-- Every layout that is laid as asked obeys the rules.
pub obeys : (l : Layout) → IsLaid l → Obeys Plain (shapes_of l)
obeys l w = record { none = λ rule listed. each l w rule listed }

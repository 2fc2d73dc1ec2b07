-- The lines of an abstract, each read back before what stands behind it.
use Rattle.std.proofs.Common.{ℕ, ℤ, ◌≡◌, ◌+◌, ◌≤◌, ◌==◌, ◌&&◌, int_lt, Bool, true, false, List, [], ◌∷◌, ◌++◌, Ok, codes, map, refl, sym, ap, subst, ◌∙◌}
use Rattle.std.specs.Prelude.{if◌then◌else◌}
use Rattle.std.specs.List.{All}
use Rattle.std.proofs.lemmas.List.{append_assoc}
use Rattle.std.proofs.lemmas.List.Elements.{All-head, All-tail}
use Rattle.cell_num.specs.declared.net.NetNo.{NetNo}
use Rattle.cell_num.specs.declared.net.Pins.{Pins}
use Rattle.box_geom.specs.Rectangle.{Rectangle}
use Rattle.box_geom.specs.declared.layer.Layer.{Layer}
use Rattle.box_geom.specs.declared.layer.Layer.TheVariants.{Metal1, Metal2}
use Rattle.box_geom.specs.declared.shape.Shape.{Shape}
use Rattle.spice_net.specs.declared.subckt.Direction.{Direction}
use Rattle.spice_net.specs.declared.subckt.Direction.TheVariants.{Input, Output, Inout}
use Rattle.lef_write.specs.Lef.{head_text, direction_text, use_text, coordinate, corner_text, rect_text, rects_text}
use Rattle.lef_read.specs.Keywords.{keyword_of}
use Rattle.lef_read.specs.Numbers.{nanometres_of, length_of}
use Rattle.lef_read.specs.Reading.{Item, Begins, Pin, Port, Obstruction, Block, OfPin, OfMacro, Place, At, InLibrary, InMacro, InPin, InBlock, item_of, read, with_items}
use Rattle.lef_read.specs.Tokens.{Token, Word, Semicolon, tokens_from, scan}
use Rattle.lef_read.specs.declared.block_kind.Current.{Current}
use Rattle.lef_read.specs.declared.block_kind.Current.TheVariants.{NoLayer, Wires}
use Rattle.lef_read.specs.declared.cell.LefPin.{LefPin}
use Rattle.lef_read.specs.declared.cell.LefRect.{LefRect}
use Rattle.file_laws.specs.Drawn.{on_layer, IsWord, IsSpelled}
use Rattle.file_laws.proofs.Items.{Tells, bytes_same, tells_obstruction, tells_port}
use Rattle.file_laws.proofs.Microns.{IsRead, coordinate_read}
use Rattle.file_laws.proofs.Sides.{nm_sides, rect_back, sides_ascend}
use Rattle.file_laws.proofs.Tokens.{word_front}

-- ---- texts that are put together
pub join4 : {X : Type 0} (a b c d : List X) → a ++ b ++ c ++ d ≡ a ++ (b ++ (c ++ d))
join4 a b c d = append_assoc (a ++ b) c d ∙ append_assoc a b (c ++ d)

pub join5 : {X : Type 0} (a b c d e : List X) → a ++ b ++ c ++ d ++ e ≡ a ++ (b ++ (c ++ (d ++ e)))
join5 a b c d e = append_assoc (a ++ b ++ c) d e ∙ join4 a b c (d ++ e)

pub join6 : {X : Type 0} (a b c d e f : List X) → a ++ b ++ c ++ d ++ e ++ f ≡ a ++ (b ++ (c ++ (d ++ (e ++ f))))
join6 a b c d e f = append_assoc (a ++ b ++ c ++ d) e f ∙ join5 a b c d (e ++ f)

pub join7 : {X : Type 0} (a b c d e f g : List X) → a ++ b ++ c ++ d ++ e ++ f ++ g ≡ a ++ (b ++ (c ++ (d ++ (e ++ (f ++ g)))))
join7 a b c d e f g = append_assoc (a ++ b ++ c ++ d ++ e) f g ∙ join6 a b c d e (f ++ g)

-- ---- what tokens tell from a place on
pub record IsTold (unit : ℕ) (p : Place) (ts : List Token) (ports : List LefRect) (pins : List LefPin) (obs : List LefRect) : Type 0 where
  pub items : List Item
  pub read : read p ts ≡ Ok items
  pub tells : Tells unit items ports pins obs

-- what a text tells, on whatever line it begins
abbrev pub ReadsTo : ℕ → Place → List ℕ → List LefRect → List LefPin → List LefRect → Type 0
ReadsTo unit p text ports pins obs = (n : ℕ) → IsTold unit p (tokens_from n text) ports pins obs

pub same_text : (unit : ℕ) (p : Place) (text other : List ℕ) (ports : List LefRect) (pins : List LefPin) (obs : List LefRect) → text ≡ other → ReadsTo unit p other ports pins obs → ReadsTo unit p text ports pins obs
same_text unit p text other ports pins obs e r n = subst (λ t. IsTold unit p (tokens_from n t) ports pins obs) (sym e) (r n)

pub moved : (unit : ℕ) (p q : Place) (ts us : List Token) (ports : List LefRect) (pins : List LefPin) (obs : List LefRect) → read p ts ≡ read q us → IsTold unit q us ports pins obs → IsTold unit p ts ports pins obs
moved unit p q ts us ports pins obs e t = record { items = t.items; read = e ∙ t.read; tells = t.tells }

pub one_item : (i : Item) (items : List Item) (p q : Place) (ts us : List Token) → read p ts ≡ with_items (i ∷ []) (read q us) → read q us ≡ Ok items → read p ts ≡ Ok (i ∷ items)
one_item i items p q ts us e f = e ∙ ap (λ r. with_items (i ∷ []) r) f

-- ---- lines without names and numbers

blanks : (n : ℕ) (rest : List ℕ) → tokens_from n (codes "    " ++ rest) ≡ tokens_from n rest
unfolding scan
blanks n rest = refl

more_blanks : (n : ℕ) (rest : List ℕ) → tokens_from n (codes "      " ++ rest) ≡ tokens_from n rest
unfolding scan
more_blanks n rest = refl

pub head_line : (n : ℕ) (rest : List ℕ) → read (At InLibrary) (tokens_from n (head_text ++ rest)) ≡ read (At InLibrary) (tokens_from (n + 1 + 1 + 1 + 1 + 1 + 1) rest)
unfolding scan read keyword_of head_text
head_line n rest = refl

pub class_line : (cell : List ℕ) (n : ℕ) (rest : List ℕ) → read (At (InMacro cell)) (tokens_from n (codes "  CLASS CORE ;\n  ORIGIN 0.000 0.000 ;\n" ++ rest)) ≡ read (At (InMacro cell)) (tokens_from (n + 1 + 1) rest)
unfolding scan read keyword_of nanometres_of length_of
class_line cell n rest = refl

pub symmetry_line : (cell : List ℕ) (n : ℕ) (rest : List ℕ) → read (At (InMacro cell)) (tokens_from n (codes "  SYMMETRY X Y ;\n" ++ rest)) ≡ read (At (InMacro cell)) (tokens_from (n + 1) rest)
unfolding scan read keyword_of
symmetry_line cell n rest = refl

pub direction_line : (cell pin : List ℕ) (d : Direction) (n : ℕ) (rest : List ℕ) → read (At (InPin cell pin)) (tokens_from n (direction_text d ++ rest)) ≡ read (At (InPin cell pin)) (tokens_from (n + 1) rest)
unfolding scan read keyword_of direction_text
direction_line cell pin Input n rest = refl
direction_line cell pin Output n rest = refl
direction_line cell pin Inout n rest = refl

pub use_line : (cell pin : List ℕ) (pins : Pins) (net : NetNo) (n : ℕ) (rest : List ℕ) → read (At (InPin cell pin)) (tokens_from n (use_text pins net ++ rest)) ≡ read (At (InPin cell pin)) (tokens_from (n + 1) rest)
unfolding scan read keyword_of use_text
use_line cell pin pins net n rest = by (net.0 == pins.vdd.0) (net.0 == pins.gnd.0)
  where
    by : (b c : Bool) → read (At (InPin cell pin)) (tokens_from n ((if b then codes "    USE POWER ;\n" else if c then codes "    USE GROUND ;\n" else codes "    USE SIGNAL ;\n") ++ rest)) ≡ read (At (InPin cell pin)) (tokens_from (n + 1) rest)
    by true c = refl
    by false true = refl
    by false false = refl

pub port_line : (cell pin : List ℕ) (n : ℕ) (rest : List ℕ) → read (At (InPin cell pin)) (tokens_from n (codes "    PORT\n      LAYER metal1 ;\n" ++ rest)) ≡ read (At (InBlock (OfPin cell pin) (Wires Metal1))) (tokens_from (n + 1 + 1) rest)
unfolding scan read keyword_of
port_line cell pin n rest = refl

pub port_end : (cell pin : List ℕ) (c : Current) (n : ℕ) (rest : List ℕ) → read (At (InBlock (OfPin cell pin) c)) (tokens_from n (codes "    END\n" ++ rest)) ≡ read (At (InPin cell pin)) (tokens_from (n + 1) rest)
unfolding scan read keyword_of
port_end cell pin c n rest = refl

pub obs_line : (cell : List ℕ) (n : ℕ) (rest : List ℕ) → read (At (InMacro cell)) (tokens_from n (codes "  OBS\n" ++ rest)) ≡ read (At (InBlock (OfMacro cell) NoLayer)) (tokens_from (n + 1) rest)
unfolding scan read keyword_of
obs_line cell n rest = refl

pub metal1_line : (cell : List ℕ) (c : Current) (n : ℕ) (rest : List ℕ) → read (At (InBlock (OfMacro cell) c)) (tokens_from n (codes "    LAYER metal1 ;\n" ++ rest)) ≡ read (At (InBlock (OfMacro cell) (Wires Metal1))) (tokens_from (n + 1) rest)
unfolding scan read keyword_of
metal1_line cell c n rest = refl

pub metal2_line : (cell : List ℕ) (c : Current) (n : ℕ) (rest : List ℕ) → read (At (InBlock (OfMacro cell) c)) (tokens_from n (codes "    LAYER metal2 ;\n" ++ rest)) ≡ read (At (InBlock (OfMacro cell) (Wires Metal2))) (tokens_from (n + 1) rest)
unfolding scan read keyword_of
metal2_line cell c n rest = refl

pub obs_end : (cell : List ℕ) (c : Current) (n : ℕ) (rest : List ℕ) → read (At (InBlock (OfMacro cell) c)) (tokens_from n (codes "  END\n" ++ rest)) ≡ read (At (InMacro cell)) (tokens_from (n + 1) rest)
unfolding scan read keyword_of
obs_end cell c n rest = refl

-- ---- lines with names
pub macro_line : (cell : List ℕ) (n : ℕ) (rest : List ℕ) → IsWord cell → read (At InLibrary) (tokens_from n (codes "MACRO " ++ (cell ++ 10 ∷ rest))) ≡ with_items (Begins cell ∷ []) (read (At (InMacro cell)) (tokens_from (n + 1) rest))
unfolding scan read keyword_of
macro_line cell n rest is = rw (word_front n cell 10 rest is refl) refl

pub end_lines : (cell : List ℕ) (n : ℕ) → IsWord cell → read (At (InMacro cell)) (tokens_from n (codes "END " ++ (cell ++ 10 ∷ codes "END LIBRARY\n"))) ≡ Ok []
unfolding scan read keyword_of
end_lines cell n is = rw (word_front n cell 10 (codes "END LIBRARY\n") is refl, bytes_same cell) refl

pub pin_line : (cell pin : List ℕ) (n : ℕ) (rest : List ℕ) → IsWord pin → read (At (InMacro cell)) (tokens_from n (codes "  PIN " ++ (pin ++ 10 ∷ rest))) ≡ with_items (Pin pin ∷ []) (read (At (InPin cell pin)) (tokens_from (n + 1) rest))
unfolding scan read keyword_of
pin_line cell pin n rest is = rw (word_front n pin 10 rest is refl) refl

pub pin_end : (cell pin : List ℕ) (n : ℕ) (rest : List ℕ) → IsWord pin → read (At (InPin cell pin)) (tokens_from n (codes "  END " ++ (pin ++ 10 ∷ rest))) ≡ read (At (InMacro cell)) (tokens_from (n + 1) rest)
unfolding scan read keyword_of
pin_end cell pin n rest is = rw (word_front n pin 10 rest is refl, bytes_same pin) refl

-- ---- lines with numbers

size_tokens : (n : ℕ) (w h rest : List ℕ) → IsWord w → IsWord h → tokens_from n (codes "  SIZE " ++ (w ++ (codes " BY " ++ (h ++ (codes " ;\n" ++ rest))))) ≡ Word n (codes "SIZE") ∷ Word n w ∷ Word n (codes "BY") ∷ Word n h ∷ Semicolon n ∷ tokens_from (n + 1) rest
unfolding scan
size_tokens n w h rest p q =
    ap (λ (ts : List Token). Word n (codes "SIZE") ∷ ts)
    (word_front n w 32 (66 ∷ 89 ∷ 32 ∷ (h ++ (codes " ;\n" ++ rest))) p refl
    ∙ ap (λ (ts : List Token). Word n w ∷ Word n (codes "BY") ∷ ts) (word_front n h 32 (59 ∷ 10 ∷ rest) q refl))

pub size_line : (cell : List ℕ) (n : ℕ) (w h rest : List ℕ) (x y : ℤ) → IsRead w x → IsRead h y → read (At (InMacro cell)) (tokens_from n (codes "  SIZE " ++ (w ++ (codes " BY " ++ (h ++ (codes " ;\n" ++ rest)))))) ≡ read (At (InMacro cell)) (tokens_from (n + 1) rest)
unfolding read keyword_of
size_line cell n w h rest x y p q = rw (size_tokens n w h rest p.word q.word, p.value, q.value) refl

rect_tokens : (n : ℕ) (a b c d rest : List ℕ) → IsWord a → IsWord b → IsWord c → IsWord d
    → tokens_from n (codes "RECT " ++ (a ++ (codes " " ++ (b ++ (codes " " ++ (c ++ (codes " " ++ (d ++ (codes " ;\n" ++ rest))))))))) ≡ Word n (codes "RECT") ∷ Word n a ∷ Word n b ∷ Word n c ∷ Word n d ∷ Semicolon n ∷ tokens_from (n + 1) rest
unfolding scan
rect_tokens n a b c d rest p q r s =
    ap (λ (ts : List Token). Word n (codes "RECT") ∷ ts)
    (word_front n a 32 (b ++ 32 ∷ (c ++ 32 ∷ (d ++ 32 ∷ 59 ∷ 10 ∷ rest))) p refl
    ∙ ap (λ (ts : List Token). Word n a ∷ ts) (word_front n b 32 (c ++ 32 ∷ (d ++ 32 ∷ 59 ∷ 10 ∷ rest)) q refl
    ∙ ap (λ (ts : List Token). Word n b ∷ ts) (word_front n c 32 (d ++ 32 ∷ 59 ∷ 10 ∷ rest) r refl
    ∙ ap (λ (ts : List Token). Word n c ∷ ts) (word_front n d 32 (59 ∷ 10 ∷ rest) s refl))))

rect_line : (block : Block) (layer : Layer) (n : ℕ) (a b c d rest : List ℕ) (r : Rectangle) → IsRead a r.x1 → IsRead b r.y1 → IsRead c r.x2 → IsRead d r.y2 → (int_lt r.x1 r.x2 && int_lt r.y1 r.y2) ≡ true
    → read (At (InBlock block (Wires layer))) (tokens_from n (codes "RECT " ++ (a ++ (codes " " ++ (b ++ (codes " " ++ (c ++ (codes " " ++ (d ++ (codes " ;\n" ++ rest))))))))))
    ≡ with_items (item_of block (record { line = n; layer = layer; sides = r }) ∷ []) (read (At (InBlock block (Wires layer))) (tokens_from (n + 1) rest))
unfolding read keyword_of
rect_line block layer n a b c d rest r p q s t up =
    rw (rect_tokens n a b c d rest p.word q.word s.word t.word, p.value, q.value, s.value, t.value, up) refl

-- the text of a rectangle behind its indent, number by number
rect_split : (indent : List ℕ) (unit : ℕ) (s : Shape) (rest : List ℕ) → rect_text indent unit s ++ rest ≡ indent ++ (codes "RECT " ++ (coordinate unit s.rect.x1 ++ (codes " " ++ (coordinate unit s.rect.y1 ++ (codes " " ++ (coordinate unit s.rect.x2 ++ (codes " " ++ (coordinate unit s.rect.y2 ++ (codes " ;\n" ++ rest)))))))))
unfolding rect_text corner_text
rect_split indent unit s rest =
    join7 indent (codes "RECT ") (coordinate unit s.rect.x1 ++ codes " " ++ coordinate unit s.rect.y1) (codes " ") (coordinate unit s.rect.x2 ++ codes " " ++ coordinate unit s.rect.y2) (codes " ;\n") rest
    ∙ (ap (λ t. indent ++ (codes "RECT " ++ t)) (join4 (coordinate unit s.rect.x1) (codes " ") (coordinate unit s.rect.y1) (codes " " ++ ((coordinate unit s.rect.x2 ++ codes " " ++ coordinate unit s.rect.y2) ++ (codes " ;\n" ++ rest))))
    ∙ ap (λ t. indent ++ (codes "RECT " ++ (coordinate unit s.rect.x1 ++ (codes " " ++ (coordinate unit s.rect.y1 ++ (codes " " ++ t)))))) (join4 (coordinate unit s.rect.x2) (codes " ") (coordinate unit s.rect.y2) (codes " ;\n" ++ rest)))

rect_read : (indent : List ℕ) (block : Block) (layer : Layer) (unit n : ℕ) (s : Shape) (rest : List ℕ) → ((m : ℕ) (text : List ℕ) → tokens_from m (indent ++ text) ≡ tokens_from m text) → 1 ≤ unit → IsSpelled unit s.rect
    → read (At (InBlock block (Wires layer))) (tokens_from n (rect_text indent unit s ++ rest)) ≡ with_items (item_of block (record { line = n; layer = layer; sides = nm_sides unit s.rect }) ∷ []) (read (At (InBlock block (Wires layer))) (tokens_from (n + 1) rest))
rect_read indent block layer unit n s rest blank u is =
    ap (λ t. read (At (InBlock block (Wires layer))) (tokens_from n t)) (rect_split indent unit s rest)
    ∙ (ap (λ ts. read (At (InBlock block (Wires layer))) ts) (blank n (codes "RECT " ++ (coordinate unit s.rect.x1 ++ (codes " " ++ (coordinate unit s.rect.y1 ++ (codes " " ++ (coordinate unit s.rect.x2 ++ (codes " " ++ (coordinate unit s.rect.y2 ++ (codes " ;\n" ++ rest))))))))))
    ∙ rect_line block layer n (coordinate unit s.rect.x1) (coordinate unit s.rect.y1) (coordinate unit s.rect.x2) (coordinate unit s.rect.y2) rest (nm_sides unit s.rect) (coordinate_read unit s.rect.x1 is.x1) (coordinate_read unit s.rect.y1 is.y1) (coordinate_read unit s.rect.x2 is.x2) (coordinate_read unit s.rect.y2 is.y2) (sides_ascend unit s.rect u is))

-- ---- lists of rectangles

pub ports_read : (cell pin : List ℕ) (unit : ℕ) (shapes : List Shape) (rest : List ℕ) (ports : List LefRect) (pins : List LefPin) (obs : List LefRect) → 1 ≤ unit → All (λ (s : Shape). IsSpelled unit s.rect) shapes → ReadsTo unit (At (InBlock (OfPin cell pin) (Wires Metal1))) rest ports pins obs → ReadsTo unit (At (InBlock (OfPin cell pin) (Wires Metal1))) (rects_text (codes "      ") unit shapes ++ rest) (map (on_layer Metal1) shapes ++ ports) pins obs
ports_read cell pin unit [] rest ports pins obs u all r = r
ports_read cell pin unit (s ∷ ss) rest ports pins obs u all r =
    same_text unit (At (InBlock (OfPin cell pin) (Wires Metal1))) ((rect_text (codes "      ") unit s ++ rects_text (codes "      ") unit ss) ++ rest) (rect_text (codes "      ") unit s ++ (rects_text (codes "      ") unit ss ++ rest)) (on_layer Metal1 s ∷ (map (on_layer Metal1) ss ++ ports)) pins obs (append_assoc (rect_text (codes "      ") unit s) (rects_text (codes "      ") unit ss) rest)
    (λ n.
    let t = ports_read cell pin unit ss rest ports pins obs u (All-tail (λ (z : Shape). IsSpelled unit z.rect) s ss all) r (n + 1) in
    record {
      items = Port (record { line = n; layer = Metal1; sides = nm_sides unit s.rect }) ∷ t.items;
      read = one_item (Port (record { line = n; layer = Metal1; sides = nm_sides unit s.rect })) t.items (At (InBlock (OfPin cell pin) (Wires Metal1))) (At (InBlock (OfPin cell pin) (Wires Metal1))) (tokens_from n (rect_text (codes "      ") unit s ++ (rects_text (codes "      ") unit ss ++ rest))) (tokens_from (n + 1) (rects_text (codes "      ") unit ss ++ rest)) (rect_read (codes "      ") (OfPin cell pin) Metal1 unit n s (rects_text (codes "      ") unit ss ++ rest) more_blanks u (All-head (λ (z : Shape). IsSpelled unit z.rect) s ss all)) t.read;
      tells = tells_port unit t.items (map (on_layer Metal1) ss ++ ports) pins obs (record { line = n; layer = Metal1; sides = nm_sides unit s.rect }) (on_layer Metal1 s) (rect_back unit n Metal1 s u) t.tells;
    })

pub obstructions_read : (cell : List ℕ) (layer : Layer) (unit : ℕ) (shapes : List Shape) (rest : List ℕ) (ports : List LefRect) (pins : List LefPin) (obs : List LefRect) → 1 ≤ unit → All (λ (s : Shape). IsSpelled unit s.rect) shapes → ReadsTo unit (At (InBlock (OfMacro cell) (Wires layer))) rest ports pins obs → ReadsTo unit (At (InBlock (OfMacro cell) (Wires layer))) (rects_text (codes "    ") unit shapes ++ rest) ports pins (map (on_layer layer) shapes ++ obs)
obstructions_read cell layer unit [] rest ports pins obs u all r = r
obstructions_read cell layer unit (s ∷ ss) rest ports pins obs u all r =
    same_text unit (At (InBlock (OfMacro cell) (Wires layer))) ((rect_text (codes "    ") unit s ++ rects_text (codes "    ") unit ss) ++ rest) (rect_text (codes "    ") unit s ++ (rects_text (codes "    ") unit ss ++ rest)) ports pins (on_layer layer s ∷ (map (on_layer layer) ss ++ obs)) (append_assoc (rect_text (codes "    ") unit s) (rects_text (codes "    ") unit ss) rest)
    (λ n.
    let t = obstructions_read cell layer unit ss rest ports pins obs u (All-tail (λ (z : Shape). IsSpelled unit z.rect) s ss all) r (n + 1) in
    record {
      items = Obstruction (record { line = n; layer = layer; sides = nm_sides unit s.rect }) ∷ t.items;
      read = one_item (Obstruction (record { line = n; layer = layer; sides = nm_sides unit s.rect })) t.items (At (InBlock (OfMacro cell) (Wires layer))) (At (InBlock (OfMacro cell) (Wires layer))) (tokens_from n (rect_text (codes "    ") unit s ++ (rects_text (codes "    ") unit ss ++ rest))) (tokens_from (n + 1) (rects_text (codes "    ") unit ss ++ rest)) (rect_read (codes "    ") (OfMacro cell) layer unit n s (rects_text (codes "    ") unit ss ++ rest) blanks u (All-head (λ (z : Shape). IsSpelled unit z.rect) s ss all)) t.read;
      tells = tells_obstruction unit t.items ports pins (map (on_layer layer) ss ++ obs) (record { line = n; layer = layer; sides = nm_sides unit s.rect }) (on_layer layer s) (rect_back unit n layer s u) t.tells;
    })

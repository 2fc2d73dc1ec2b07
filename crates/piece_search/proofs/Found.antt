-- What the search for the fewest tracks says of the row that it found, and of the row's first routing on them.
use Rattle.std.proofs.Common.{ℕ, ◌≡◌, List, Option, IfSome, Some, subst, sym}
use Rattle.cell_num.specs.declared.finger.Row.{Row}
use Rattle.cell_num.specs.declared.net.Pins.{Pins}
use Rattle.row_model.specs.declared.column.Column.{Column}
use Rattle.row_place.specs.declared.placement.Placement.{Placement}
use Rattle.row_place.specs.Places.{placement_of}
use Rattle.row_place.specs.Trunks.{HasPins}
use Rattle.row_state.specs.declared.kind.Kinds.{Kinds}
use Rattle.row_state.specs.declared.state.State.{State}
use Rattle.row_state.specs.Start.{AreSomeKinds}
use Rattle.track_ways.specs.declared.lemma.TrackLemma.{TrackLemma}
use Rattle.track_search.specs.declared.fewest.Fewest.{Fewest}
use Rattle.track_search.specs.declared.fewest.Fewest.TheVariants as fewest
use Rattle.track_search.specs.FewestBy.{IsFewestBy, IsFirstOnBy, TakeAtLeastBy, TakeTracksBy}
use Rattle.track_search.specs.LimitBy.{IsFirstRowBy}
use Rattle.track_search.specs.Lowest.{Arranges}
use Rattle.track_search.proofs.LowestFound.{found_some}
use Rattle.dogleg_route.specs.declared.piece.PieceRouting.{PieceRouting}
use Rattle.piece_lines.specs.Lines.{PieceLineFits}
use Rattle.first_pieces.specs.First.{HasNoPieces, IsFirstPieces}
use Rattle.piece_search.specs.Lowest.{IsFirstLowPieces, TakePiecesAtLeast}
use Rattle.piece_search.proofs.Pieces.{first_low, has_pieces, take_pieces}

-- ---- the row

pub first_on : (value : Row → State → Kinds → ℕ) (pins : Pins) (k : Kinds) (gaps : ℕ) (e : Fewest)
    (row : List Column) (tracks : ℕ) (lemmas : List TrackLemma) → e ≡ fewest.Found row tracks lemmas →
    IsFewestBy PieceLineFits value pins k gaps e → IsFirstOnBy PieceLineFits value pins k gaps row tracks lemmas
first_on value pins k gaps e row tracks lemmas is h = subst (IsFewestBy PieceLineFits value pins k gaps) is h

pub arranged : (pins : Pins) (k : Kinds) (gaps tracks : ℕ) (row : List Column) →
    IsFirstRowBy PieceLineFits pins tracks k gaps row → Arranges k gaps row
arranged pins k gaps tracks row first = record { arranges = first.arranges; within = first.within }

takes : (pins : Pins) (k : Kinds) (gaps : ℕ) (e : Fewest) (row : List Column) (tracks : ℕ)
    (lemmas : List TrackLemma) → e ≡ fewest.Found row tracks lemmas → TakeTracksBy PieceLineFits pins k gaps e →
    TakeAtLeastBy PieceLineFits pins k gaps tracks
takes pins k gaps e row tracks lemmas is h = subst (TakeTracksBy PieceLineFits pins k gaps) is h

pub take_found : (pins : Pins) (k : Kinds) (gaps : ℕ) (e : Fewest) (row : List Column) (tracks : ℕ)
    (lemmas : List TrackLemma) → AreSomeKinds k → e ≡ fewest.Found row tracks lemmas →
    TakeTracksBy PieceLineFits pins k gaps e → TakePiecesAtLeast pins k gaps tracks
take_found pins k gaps e row tracks lemmas some is h =
    take_pieces pins k gaps tracks some (takes pins k gaps e row tracks lemmas is h)

pub take_open : (pins : Pins) (k : Kinds) (gaps : ℕ) (e : Fewest) (proved : ℕ) (lemmas : List TrackLemma) →
    AreSomeKinds k → e ≡ fewest.Open proved lemmas → TakeTracksBy PieceLineFits pins k gaps e →
    TakePiecesAtLeast pins k gaps proved
take_open pins k gaps e proved lemmas some is h =
    take_pieces pins k gaps proved some (subst (TakeTracksBy PieceLineFits pins k gaps) is h)

-- ---- its routing

pub has_some : (value : Row → State → Kinds → ℕ) (pins : Pins) (k : Kinds) (gaps : ℕ) (e : Fewest)
    (row : List Column) (tracks : ℕ) (lemmas : List TrackLemma) (p : Placement) → AreSomeKinds k →
    e ≡ fewest.Found row tracks lemmas → IsFewestBy PieceLineFits value pins k gaps e →
    TakeTracksBy PieceLineFits pins k gaps e → p ≡ placement_of row → HasPins p pins → HasNoPieces p pins tracks → ⊥
has_some value pins k gaps e row tracks lemmas p some is h least placed pinned none =
    has_pieces pins k gaps tracks row some (first_on value pins k gaps e row tracks lemmas is h).first
    (takes pins k gaps e row tracks lemmas is least) (subst (λ (q : Placement). HasPins q pins) placed pinned)
    (subst (λ (q : Placement). HasNoPieces q pins tracks) placed none)

-- it has as many tracks as the row takes
pub same_tracks : (p : Placement) (pins : Pins) (tracks : ℕ) (o : Option PieceRouting) (r : PieceRouting) →
    o ≡ Some r → IfSome o (IsFirstPieces p pins tracks) → r.tracks ≡ tracks
same_tracks p pins tracks o r is h =
    let first : IsFirstPieces p pins tracks r = found_some (IsFirstPieces p pins tracks) o r is h in first.is.tracks

pub take_same : (pins : Pins) (k : Kinds) (gaps tracks same : ℕ) → same ≡ tracks →
    TakePiecesAtLeast pins k gaps tracks → TakePiecesAtLeast pins k gaps same
take_same pins k gaps tracks same e h = subst (TakePiecesAtLeast pins k gaps) (sym e) h

pub first_same : (pins : Pins) (k : Kinds) (gaps tracks same : ℕ) (row placed : List Column) → AreSomeKinds k →
    same ≡ tracks → placed ≡ row → IsFirstRowBy PieceLineFits pins tracks k gaps row →
    IsFirstLowPieces pins k gaps same placed
first_same pins k gaps tracks same row placed some e is first =
    subst (IsFirstLowPieces pins k gaps same) (sym is)
    (subst (λ n. IsFirstLowPieces pins k gaps n row) (sym e) (first_low pins k gaps tracks row some first))

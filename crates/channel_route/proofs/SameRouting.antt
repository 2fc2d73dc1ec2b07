-- Two routings whose trunks are told by keys are one, where each trunk stands on the least track that is
-- free for it.
use Rattle.std.proofs.Common.{ℕ, ◌≡◌, ◌<◌, List, inl, inr, sym, subst, arith, All, AllPairs, Any, Contains}
use Rattle.std.proofs.lemmas.Bool.{cases_order}
use Rattle.std.proofs.lemmas.List.Elements.{All-contains}
use Rattle.cell_num.specs.declared.net.NetNo.{NetNo}
use Rattle.cell_num.proofs.Pairs.{Some', some_from_any}
use Rattle.row_place.proofs.Order.{same_list}
use Rattle.channel_route.specs.declared.routing.Trunk.{Trunk}
use Rattle.channel_route.specs.declared.routing.Routing.{Routing}
use Rattle.channel_route.proofs.Unique.{IsTightFor, one_track}

pub record SameSpan (a b : Trunk) : Type 0 where
  pub net : a.net ≡ b.net
  pub left : a.left ≡ b.left
  pub right : a.right ≡ b.right

-- Each key has one trunk and each trunk is of a key; they are in order, each on the least track that is
-- free for it, and every track has one.
pub record IsKeyed {K : Type 0} (Of : K → Trunk → Type 0) (Over Early : K → K → Type 0) (Before : Trunk → Trunk → Type 0) (r : Routing) : Type 0 where
  pub each : (k : K) → Some' (Of k) r.trunks
  pub key : (t : Trunk) → Contains r.trunks t → (k : K) × Of k t
  pub one : (k : K) (t : Trunk) → Contains r.trunks t → Of k t → (each k).it ≡ t
  pub tight : IsTightFor Over Early (λ k. (each k).it.track)
  pub order : AllPairs Before r.trunks
  pub tracks : All (λ t. t.track < r.tracks) r.trunks
  pub full : (track : ℕ) → track < r.tracks → Any (λ t. t.track ≡ track) r.trunks

-- what is proved of a key from the earlier ones is proved of all
abbrev pub Induction : {K : Type 0} → (K → K → Type 0) → Type 1
Induction {K} Early = (P : K → Type 0) → ((x : K) → ((y : K) → Early y x → P y) → P x) → (x : K) → P x

-- trunks of one key go over the same lines
abbrev pub HaveSpans : {K : Type 0} → (K → Trunk → Type 0) → Type 0
HaveSpans {K} Of = (k : K) (a b : Trunk) → Of k a → Of k b → SameSpan a b

make_trunk : NetNo → ℕ → ℕ → ℕ → Trunk
make_trunk net left right track = record { net = net; left = left; right = right; track = track }

made_trunk : {n m : NetNo} {a b c d e f : ℕ} → n ≡ m → a ≡ b → c ≡ d → e ≡ f → make_trunk n a c e ≡ make_trunk m b d f
made_trunk en ea ec ee = cc

trunk_same : (a b : Trunk) → SameSpan a b → a.track ≡ b.track → a ≡ b
unfolding make_trunk
trunk_same a b e f = made_trunk e.net e.left e.right f

-- each trunk of one is in the other
there_too : {K : Type 0} (Of : K → Trunk → Type 0) (Over Early : K → K → Type 0) (Before : Trunk → Trunk → Type 0) (r s : Routing) → Induction Early → HaveSpans Of → IsKeyed Of Over Early Before r → IsKeyed Of Over Early Before s → (t : Trunk) → Contains r.trunks t → Contains s.trunks t
there_too {K} Of Over Early Before r s induct spans kr ks t there =
    let k : (k : K) × Of k t = kr.key t there in
    let mine : (kr.each k.0).it ≡ t = kr.one k.0 t there k.1 in
    let same : (kr.each k.0).it.track ≡ (ks.each k.0).it.track = one_track Over Early (λ k. (kr.each k).it.track) (λ k. (ks.each k).it.track) induct kr.tight ks.tight k.0 in
    let one : (kr.each k.0).it ≡ (ks.each k.0).it = trunk_same (kr.each k.0).it (ks.each k.0).it (spans k.0 (kr.each k.0).it (ks.each k.0).it (kr.each k.0).holds (ks.each k.0).holds) same in
    subst (λ z. Contains s.trunks z) mine (subst (λ z. Contains s.trunks z) (sym one) (ks.each k.0).there)

-- no more tracks
no_more : (r s : Routing) → All (λ t. t.track < r.tracks) r.trunks → ((track : ℕ) → track < s.tracks → Any (λ t. t.track ≡ track) s.trunks) → ((t : Trunk) → Contains s.trunks t → Contains r.trunks t) → r.tracks < s.tracks → ⊥
no_more r s low full back less =
    let t : Some' (λ (t : Trunk). t.track ≡ r.tracks) s.trunks = some_from_any (λ (t : Trunk). t.track ≡ r.tracks) s.trunks (full r.tracks less) in
    let below : t.it.track < r.tracks = All-contains (λ (t : Trunk). t.track < r.tracks) r.trunks t.it low (back t.it t.there) in
    omega (arith, below, t.holds)

make : ℕ → List Trunk → Routing
make tracks trunks = record { tracks = tracks; trunks = trunks }

made : {m n : ℕ} {xs ys : List Trunk} → m ≡ n → xs ≡ ys → make m xs ≡ make n ys
made e f = cc

pub same_routing : {K : Type 0} (Of : K → Trunk → Type 0) (Over Early : K → K → Type 0) (Before : Trunk → Trunk → Type 0) (r s : Routing) → Induction Early → HaveSpans Of → ((a b : Trunk) → Before a b → Before b a → ⊥) → IsKeyed Of Over Early Before r → IsKeyed Of Over Early Before s → r ≡ s
unfolding make
same_routing Of Over Early Before r s induct spans strict kr ks = made tracks trunks
  where
    there : (t : Trunk) → Contains r.trunks t → Contains s.trunks t
    there = there_too Of Over Early Before r s induct spans kr ks

    back : (t : Trunk) → Contains s.trunks t → Contains r.trunks t
    back = there_too Of Over Early Before s r induct spans ks kr

    trunks : r.trunks ≡ s.trunks
    trunks = same_list Before strict r.trunks s.trunks kr.order ks.order there back

    tracks : r.tracks ≡ s.tracks
    tracks = elim (cases_order r.tracks s.tracks) [
      | inl same ↦ same
      | inr other ↦ elim other [ inl less ↦ absurd (no_more r s kr.tracks ks.full back less) | inr more ↦ absurd (no_more s r ks.tracks kr.full there more) ]
    ]

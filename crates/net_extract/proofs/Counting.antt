-- A drawing has fewer nets than 32 bits can count: each begins at a corner of two sides.
use Rattle.std.proofs.Common.{◌≡◌, suc, ◌*◌, ◌≤◌, ℤ, List, [], ◌∷◌, ◌++◌, map, length, arith, refl, sym, subst, ◌∙◌, inl, inr, length-append}
use Rattle.std.specs.List.{AllPairs, Contains, flat_map}
use Rattle.std.proofs.lemmas.List.Elements.{All-contains, Contains-append_left, Contains-append_right}
use Rattle.cell_num.proofs.Lists.{contains_none, contains_cons, contains_here, contains_there}
use Rattle.cell_num.proofs.Pairs.{pairs_head, pairs_tail}
use Rattle.cell_num.proofs.In.{contains_flat, in_map, contains_map}
use Rattle.net_extract.specs.Corners.{AreSides, HaveFewCorners}
use Rattle.net_extract.specs.Nets.{Site, site_at}
use Rattle.net_extract.specs.declared.piece.Conductor.{Conductor}
use Rattle.net_extract.specs.declared.piece.Conductor.TheVariants.{PDiffusion, NDiffusion, Poly, Metal1, Metal2}
use Rattle.net_extract.specs.Numbering.{NotBehind, IsBefore}
use Rattle.net_extract.specs.Pieces.{corner_of}
use Rattle.net_extract.specs.Connections.{firsts_of}
use Rattle.net_extract.specs.declared.piece.Piece.{Piece}
use Rattle.net_extract.proofs.Ranking.{not_behind_self}

-- ---- elements that are listed once
record Without {X : Type 0} (ys : List X) (x : X) : Type 0 where
  pub rest : List X
  pub shorter : length ys ≡ suc (length rest)
  pub kept : (z : X) → Contains ys z → (x ≡ z → ⊥) → Contains rest z

without : {X : Type 0} (ys : List X) (x : X) → Contains ys x → Without ys x
without [] x c = absurd (contains_none x c)
without (y ∷ ys) x c =
    elim (contains_cons y ys x c) [
      | inl e ↦ record { rest = ys; shorter = refl; kept = λ z d ne. elim (contains_cons y ys z d) [ inl f ↦ absurd (ne (sym e ∙ f)) | inr r ↦ r ] }
      | inr there ↦
          let w = without ys x there in
          let shorter = w.shorter in
          record { rest = y ∷ w.rest; shorter = omega (arith, shorter); kept = λ z d ne. elim (contains_cons y ys z d) [ inl f ↦ subst (Contains (y ∷ w.rest)) f (contains_here y w.rest) | inr r ↦ contains_there y w.rest z (w.kept z r ne) ] }
    ]

pub no_more : {X : Type 0} (R : X → X → Type 0) → ((a b : X) → R a b → a ≡ b → ⊥) → (xs ys : List X) → AllPairs R xs → ((z : X) → Contains xs z → Contains ys z) → length xs ≤ length ys
no_more R strict [] ys o sub = omega arith
no_more R strict (x ∷ xs) ys o sub =
    let w = without ys x (sub x (contains_here x xs)) in
    let rest : length xs ≤ length w.rest = no_more R strict xs w.rest (pairs_tail R x xs o) (λ z c. w.kept z (sub z (contains_there x xs z c)) (λ e. strict x z (All-contains (R x) xs z (pairs_head R x xs o) c) e)) in
    let shorter = w.shorter in
    omega (arith, rest, shorter)

-- ---- corners
few_flat : {X Y : Type 0} (f : X → List Y) → ((x : X) → length (f x) ≤ 20000) → (xs : List X) → length (flat_map f xs) ≤ 20000 * length xs
few_flat f few [] = omega arith
few_flat f few (x ∷ xs) = let a = few x in let r = few_flat f few xs in let e = length-append (f x) (flat_map f xs) in omega (arith, a, r, e)

many_map : {X Y : Type 0} (f : X → Y) (xs : List X) → length (map f xs) ≡ length xs
many_map f [] = refl
many_map f (x ∷ xs) = omega (arith, many_map f xs)

abbrev row_of : List ℤ → Conductor → ℤ → List Site
row_of xs k y = map (λ x. site_at k x y) xs

abbrev sites_of : List ℤ → List ℤ → Conductor → List Site
sites_of xs ys k = flat_map (row_of xs k) ys

abbrev all_sites : List ℤ → List ℤ → List Site
all_sites xs ys = sites_of xs ys PDiffusion ++ (sites_of xs ys NDiffusion ++ (sites_of xs ys Poly ++ (sites_of xs ys Metal1 ++ sites_of xs ys Metal2)))

few_sites : (xs ys : List ℤ) (k : Conductor) → AreSides xs ys → length (sites_of xs ys k) ≤ 400000000
few_sites xs ys k few =
    let a = few_flat (row_of xs k) (λ y. let m = many_map (λ x. site_at k x y) xs in let l = few.across in omega (arith, m, l)) ys in
    let b = few.upward in
    omega (arith, a, b)

few_all : (xs ys : List ℤ) → AreSides xs ys → length (all_sites xs ys) ≤ 2000000000
few_all xs ys few =
    let p = few_sites xs ys PDiffusion few in
    let n = few_sites xs ys NDiffusion few in
    let o = few_sites xs ys Poly few in
    let m = few_sites xs ys Metal1 few in
    let t = few_sites xs ys Metal2 few in
    let e1 = length-append (sites_of xs ys Metal1) (sites_of xs ys Metal2) in
    let e2 = length-append (sites_of xs ys Poly) (sites_of xs ys Metal1 ++ sites_of xs ys Metal2) in
    let e3 = length-append (sites_of xs ys NDiffusion) (sites_of xs ys Poly ++ (sites_of xs ys Metal1 ++ sites_of xs ys Metal2)) in
    let e4 = length-append (sites_of xs ys PDiffusion) (sites_of xs ys NDiffusion ++ (sites_of xs ys Poly ++ (sites_of xs ys Metal1 ++ sites_of xs ys Metal2))) in
    omega (arith, p, n, o, m, t, e1, e2, e3, e4)

in_sites : (xs ys : List ℤ) (k : Conductor) (x y : ℤ) → Contains xs x → Contains ys y → Contains (sites_of xs ys k) (site_at k x y)
in_sites xs ys k x y cx cy = contains_flat (row_of xs k) ys y (site_at k x y) cy (contains_map (λ z. site_at k z y) xs x cx)

behind_p : (xs ys : List ℤ) (a : Site) → Contains (sites_of xs ys NDiffusion ++ (sites_of xs ys Poly ++ (sites_of xs ys Metal1 ++ sites_of xs ys Metal2))) a → Contains (all_sites xs ys) a
behind_p xs ys a c = Contains-append_right (sites_of xs ys PDiffusion) (sites_of xs ys NDiffusion ++ (sites_of xs ys Poly ++ (sites_of xs ys Metal1 ++ sites_of xs ys Metal2))) a c

behind_n : (xs ys : List ℤ) (a : Site) → Contains (sites_of xs ys Poly ++ (sites_of xs ys Metal1 ++ sites_of xs ys Metal2)) a → Contains (sites_of xs ys NDiffusion ++ (sites_of xs ys Poly ++ (sites_of xs ys Metal1 ++ sites_of xs ys Metal2))) a
behind_n xs ys a c = Contains-append_right (sites_of xs ys NDiffusion) (sites_of xs ys Poly ++ (sites_of xs ys Metal1 ++ sites_of xs ys Metal2)) a c

behind_poly : (xs ys : List ℤ) (a : Site) → Contains (sites_of xs ys Metal1 ++ sites_of xs ys Metal2) a → Contains (sites_of xs ys Poly ++ (sites_of xs ys Metal1 ++ sites_of xs ys Metal2)) a
behind_poly xs ys a c = Contains-append_right (sites_of xs ys Poly) (sites_of xs ys Metal1 ++ sites_of xs ys Metal2) a c

in_all : (xs ys : List ℤ) (k : Conductor) (x y : ℤ) → Contains xs x → Contains ys y → Contains (all_sites xs ys) (site_at k x y)
in_all xs ys PDiffusion x y cx cy = Contains-append_left (sites_of xs ys PDiffusion) (sites_of xs ys NDiffusion ++ (sites_of xs ys Poly ++ (sites_of xs ys Metal1 ++ sites_of xs ys Metal2))) (site_at PDiffusion x y) (in_sites xs ys PDiffusion x y cx cy)
in_all xs ys NDiffusion x y cx cy = behind_p xs ys (site_at NDiffusion x y) (Contains-append_left (sites_of xs ys NDiffusion) (sites_of xs ys Poly ++ (sites_of xs ys Metal1 ++ sites_of xs ys Metal2)) (site_at NDiffusion x y) (in_sites xs ys NDiffusion x y cx cy))
in_all xs ys Poly x y cx cy = behind_p xs ys (site_at Poly x y) (behind_n xs ys (site_at Poly x y) (Contains-append_left (sites_of xs ys Poly) (sites_of xs ys Metal1 ++ sites_of xs ys Metal2) (site_at Poly x y) (in_sites xs ys Poly x y cx cy)))
in_all xs ys Metal1 x y cx cy = behind_p xs ys (site_at Metal1 x y) (behind_n xs ys (site_at Metal1 x y) (behind_poly xs ys (site_at Metal1 x y) (Contains-append_left (sites_of xs ys Metal1) (sites_of xs ys Metal2) (site_at Metal1 x y) (in_sites xs ys Metal1 x y cx cy))))
in_all xs ys Metal2 x y cx cy = behind_p xs ys (site_at Metal2 x y) (behind_n xs ys (site_at Metal2 x y) (behind_poly xs ys (site_at Metal2 x y) (Contains-append_right (sites_of xs ys Metal1) (sites_of xs ys Metal2) (site_at Metal2 x y) (in_sites xs ys Metal2 x y cx cy))))

before_differs : (a b : Site) → IsBefore a b → a ≡ b → ⊥
before_differs a b before e = before.other (subst (λ z. NotBehind b z) (sym e) (not_behind_self b))

-- pieces whose corners ascend
pub few_firsts : (firsts : List Piece) → AllPairs IsBefore (firsts_of firsts) → HaveFewCorners firsts → length firsts ≤ 2000000000
few_firsts firsts up h =
    let few = few_all h.xs h.ys h.few in
    let many = many_map corner_of firsts in
    let most = no_more IsBefore before_differs (firsts_of firsts) (all_sites h.xs h.ys) up (λ a c. let i = in_map corner_of firsts a c in let k = h.corners i.of i.listed in subst (Contains (all_sites h.xs h.ys)) i.is (in_all h.xs h.ys (corner_of i.of).kind i.of.left i.of.low k.left k.low)) in
    omega (arith, few, many, most)

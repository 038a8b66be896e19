-- A step of a search: it stays one, and has less to do.
use Rattle.lk_types.proofs.Members.{each_both, each_front, each_back}
use Rattle.std.proofs.Common.{◌≡◌, ℕ, zero, suc, ◌+◌, ◌-◌, ◌^◌, ◌<◌, ◌≤◌, List, [], ◌∷◌, ◌++◌, length, set, arith, min, ap, ◌∙◌}
use Rattle.std.proofs.lemmas.List.{length-set, length-append}
use Rattle.std.specs.Prelude.{slice_index_or as get_or}
use Rattle.lk_arena.specs.Order.{IsSearch}
use Rattle.lk_arena.specs.Shapes.{shape_at, parts_of, AllBelow}
use Rattle.lk_arena.specs.declared.node.Shape.{Shape}

-- how many parts weren't looked at
abbrev pub unseen : List Shape → List ℕ → ℕ
unseen (s ∷ ss) (k ∷ ks) = (length (parts_of s) - k) + unseen ss ks
unseen _ _ = 0

abbrev pub to_do : List Shape → List ℕ → List ℕ → ℕ
to_do shapes looks path = (unseen shapes looks + unseen shapes looks) + length path

pub unseen-le : (ss : List Shape) (ks : List ℕ) (i m : ℕ) → i < length ks → get_or ks i 0 ≤ m → unseen ss (set ks i m) ≤ unseen ss ks
unseen-le [] ks i m h l = omega arith
unseen-le (s ∷ ss) [] i m h l = absurd (omega arith)
unseen-le (s ∷ ss) (k ∷ ks) zero m h l = omega arith
unseen-le (s ∷ ss) (k ∷ ks) (suc i) m h l = let t = unseen-le ss ks i m (omega arith) l in omega arith

pub unseen-lt :
    (ss : List Shape) (ks : List ℕ) (i m : ℕ) → i < length ss → i < length ks → get_or ks i 0 < m → get_or ks i 0 < length (parts_of (shape_at ss i)) →
    unseen ss (set ks i m) < unseen ss ks
unseen-lt [] ks i m b h l p = absurd (omega arith)
unseen-lt (s ∷ ss) [] i m b h l p = absurd (omega arith)
unseen-lt (s ∷ ss) (k ∷ ks) zero m b h l p = omega arith
unseen-lt (s ∷ ss) (k ∷ ks) (suc i) m b h l p = let t = unseen-lt ss ks i m (omega arith) (omega arith) l p in omega arith

-- the last node of the path is looked at
module _ (n : ℕ) (looks rest done path : List ℕ) (node : ℕ) (is : path ≡ rest ++ node ∷ []) (search : IsSearch n looks path done) where
  down_all : AllBelow n (rest ++ node ∷ [])
  down_all = rw is at search.down

  pub node_below : node < n
  node_below = (each_back (λ i. i < n) rest (node ∷ []) down_all).0

  pub search_done : (m : ℕ) → IsSearch n (set looks node m) rest (done ++ node ∷ [])
  search_done m = record {
    count = length-set looks node m ∙ search.count;
    down = each_front (λ i. i < n) rest (node ∷ []) down_all;
    ended = each_both (λ i. i < n) done (node ∷ []) search.ended (node_below, tt);
  }

  pub search_more : (m c : ℕ) → c < n → IsSearch n (set looks node m) ((rest ++ node ∷ []) ++ c ∷ []) done
  search_more m c below = record {
    count = length-set looks node m ∙ search.count;
    down = each_both (λ i. i < n) (rest ++ node ∷ []) (c ∷ []) down_all (below, tt);
    ended = search.ended;
  }

  module _ (shapes : List Shape) (all : length shapes ≡ n) (k m : ℕ) (seen : k ≡ get_or looks node 0) (next : m ≡ min (k + 1) (2 ^ 64 - 1)) where
    in_looks : node < length looks
    in_looks = let e = search.count in let b = node_below in omega arith

    long : length path ≡ length rest + 1
    long = ap length is ∙ length-append rest (node ∷ [])

    pub less_done : k < 2 ^ 64 → to_do shapes (set looks node m) rest < to_do shapes looks path
    less_done fits =
        let l = long in
        let u = unseen-le shapes looks node m in_looks (omega arith) in
        omega arith

    module _ (fits : k + 1 < 2 ^ 64) (part : k < length (parts_of (shape_at shapes node))) where
      fewer : unseen shapes (set looks node m) < unseen shapes looks
      fewer =
          let b = node_below in
          unseen-lt shapes looks node m (omega arith) in_looks (omega arith) (let p = part in omega arith)

      pub less_same : to_do shapes (set looks node m) (rest ++ node ∷ []) < to_do shapes looks path
      less_same =
          let l = long in let u = fewer in let t = length-append rest (node ∷ []) in
          omega arith

      pub less_more : (c : ℕ) → to_do shapes (set looks node m) ((rest ++ node ∷ []) ++ c ∷ []) < to_do shapes looks path
      less_more c =
          let l = long in let u = fewer in let t = length-append rest (node ∷ []) in let s = length-append (rest ++ node ∷ []) (c ∷ []) in
          omega arith

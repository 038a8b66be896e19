-- Continuations that get their places in the order of all.
use Rattle.std.proofs.Common.{◌≡◌, refl, sym, ap, subst, ◌∙◌, ℕ, zero, suc, ◌+◌, List, [], ◌∷◌, ◌++◌, append-nil, append_assoc, length, length-append, map, reverse, drop, Option, Some, None, slice_get, arith}
use Rattle.std.proofs.lemmas.Grind.{flat_map-append}
use Rattle.std.proofs.lemmas.List.{map-append, reverse-append}
use Rattle.std.proofs.lemmas.Option.{none-some}
use Rattle.lk_types.proofs.Parts.{same_some}
use Rattle.lk_types.specs.Each.{Each}
use Rattle.lk_ir.specs.Continuing.{conts_of}
use Rattle.lk_ir.specs.Uses.{AreKept, IsTurnKept, KeepsJust, UsedBehind, turned}
use Rattle.lk_ir.specs.declared.nodes.Cont.{Cont}
use Rattle.lk_ir.specs.declared.nodes.Conts.{Conts}
use Rattle.lk_ir.specs.declared.nodes.Form.{Form}
use Rattle.lk_ir.specs.declared.nodes.Forms.{Forms}
use Rattle.lk_ir.specs.declared.nodes.Kept.{Kept}
use Rattle.lk_ir.specs.Orders.{CountFrom, all_orders, orders}
use Rattle.lk_ir.specs.TypedUses.{AreTypedAt, KeepsTypes}
use Rattle.lk_cps.specs.Live.{AllConts, AreContsAt, bare, forward, keeps_in}
use Rattle.lk_cps.specs.Numbered.{AreNumbered, AreWhole, IsNumbered}
use Rattle.lk_ir.specs.TypedUses.{UsedBehindAs}

-- ---- numbers one by one

counted_on : (from : ℕ) (xs ys : List ℕ) → CountFrom from xs → CountFrom (from + length xs) ys → CountFrom from (xs ++ ys)
counted_on from [] ys first rest = subst (λ n. CountFrom n ys) (let e : from + 0 ≡ from = omega arith in e) rest
counted_on from (x ∷ xs) ys first rest = (first.0, counted_on (from + 1) xs ys first.1 (subst (λ n. CountFrom n ys) (let e : from + suc (length xs) ≡ (from + 1) + length xs = omega arith in e) rest))

orders_append : (cs ds : List (Option Cont)) → orders (cs ++ ds) ≡ orders cs ++ orders ds
orders_append [] ds = refl
orders_append (None ∷ cs) ds = orders_append cs ds
orders_append (Some c ∷ cs) ds = ap (λ xs. c.order ∷ xs) (orders_append cs ds)

-- ---- one node

-- these have their numbers, and those that are left come behind them
pub record IsNumbering (from : ℕ) (whole left : List (Option Cont)) (next : ℕ) (done : List (Option Cont)) : Type 0 where
  pub same : bare done ++ bare (reverse left) ≡ bare (reverse whole)
  pub counted : CountFrom from (orders done)
  pub gone : next ≡ from + length (orders done)

pub numbering_first : (from : ℕ) (whole : List (Option Cont)) → IsNumbering from whole whole from []
numbering_first from whole = record { same = refl; counted = tt; gone = let e : from ≡ from + 0 = omega arith in e }

pub numbering_more : (from : ℕ) (whole left rest : List (Option Cont)) (next later : ℕ) (done more : List (Option Cont)) (cont numbered : Option Cont)
    → IsNumbering from whole left next done → left ≡ rest ++ cont ∷ [] → IsNumbered next (cont ∷ []) later (numbered ∷ []) → more ≡ done ++ numbered ∷ [] → IsNumbering from whole rest later more
numbering_more from whole left rest next later done more cont numbered is popped one pushed =
    subst (IsNumbering from whole rest later) (sym pushed) (record {
      same =
          ap (λ xs. xs ++ bare (reverse rest)) (map-append keeps_in done (numbered ∷ []))
          ∙ append_assoc (bare done) (bare (numbered ∷ [])) (bare (reverse rest))
          ∙ ap (λ xs. bare done ++ (xs ++ bare (reverse rest))) one.same
          ∙ ap (λ xs. bare done ++ bare xs) (sym (ap reverse popped ∙ reverse-append rest (cont ∷ [])))
          ∙ is.same;
      counted = subst (CountFrom from) (sym (orders_append done (numbered ∷ []))) (counted_on from (orders done) (orders (numbered ∷ [])) is.counted (subst (λ n. CountFrom n (orders (numbered ∷ []))) is.gone one.counted));
      gone =
          let long : length (orders (done ++ numbered ∷ [])) ≡ length (orders done) + length (orders (numbered ∷ [])) = ap length (orders_append done (numbered ∷ [])) ∙ length-append (orders done) (orders (numbered ∷ [])) in
          let e : later ≡ from + length (orders (done ++ numbered ∷ [])) = omega (arith, one.gone, is.gone, long) in
          e;
    })

pub numbering_last : (from : ℕ) (whole left : List (Option Cont)) (next : ℕ) (done : List (Option Cont)) → left ≡ [] → IsNumbering from whole left next done → IsNumbered from (reverse whole) next done
numbering_last from whole left next done none is = record { same = sym (append-nil (bare done)) ∙ ap (λ xs. bare done ++ bare (reverse xs)) (sym none) ∙ is.same; counted = is.counted; gone = is.gone }

-- ---- all nodes

abbrev of_node : Conts → List (Option (List Kept))
of_node c = bare c.of

abbrev orders_of : Conts → List ℕ
orders_of c = orders c.of

pub record AreNumbering (whole left : List (List (Option Cont))) (next : ℕ) (done : List Conts) : Type 0 where
  pub same : map of_node done ++ map bare (forward left) ≡ map bare (forward whole)
  pub counted : CountFrom 0 (all_orders done)
  pub gone : next ≡ length (all_orders done)

pub all_first : (whole : List (List (Option Cont))) → AreNumbering whole whole 0 []
all_first whole = record { same = refl; counted = tt; gone = refl }

forward_more : (rest : List (List (Option Cont))) (of : List (Option Cont)) → forward (rest ++ of ∷ []) ≡ reverse of ∷ forward rest
forward_more rest of = ap (map (λ (cs : List (Option Cont)). reverse cs)) (reverse-append rest (of ∷ []))

all_orders_more : (done : List Conts) (c : Conts) → all_orders (done ++ c ∷ []) ≡ all_orders done ++ orders_of c
all_orders_more done c = flat_map-append orders_of done (c ∷ []) ∙ ap (λ xs. all_orders done ++ xs) (append-nil (orders_of c))

pub all_more : (whole left rest : List (List (Option Cont))) (next later : ℕ) (done more : List Conts) (of : List (Option Cont)) (c : Conts)
    → AreNumbering whole left next done → left ≡ rest ++ of ∷ [] → IsNumbered next (reverse of) later c.of → more ≡ done ++ c ∷ [] → AreNumbering whole rest later more
all_more whole left rest next later done more of c is popped one pushed =
    subst (AreNumbering whole rest later) (sym pushed) (record {
      same =
          ap (λ xs. xs ++ map bare (forward rest)) (map-append of_node done (c ∷ []))
          ∙ append_assoc (map of_node done) (of_node c ∷ []) (map bare (forward rest))
          ∙ ap (λ x. map of_node done ++ x ∷ map bare (forward rest)) one.same
          ∙ ap (λ xs. map of_node done ++ map bare xs) (sym (ap forward popped ∙ forward_more rest of))
          ∙ is.same;
      counted = subst (CountFrom 0) (sym (all_orders_more done c)) (counted_on 0 (all_orders done) (orders_of c) is.counted (subst (λ n. CountFrom n (orders_of c)) (is.gone ∙ (let e : length (all_orders done) ≡ 0 + length (all_orders done) = omega arith in e)) one.counted));
      gone =
          let long : length (all_orders (done ++ c ∷ [])) ≡ length (all_orders done) + length (orders_of c) = ap length (all_orders_more done c) ∙ length-append (all_orders done) (orders_of c) in
          let e : later ≡ length (all_orders (done ++ c ∷ [])) = omega (arith, one.gone, is.gone, long) in
          e;
    })

pub all_last : (whole left : List (List (Option Cont))) (next : ℕ) (done : List Conts) → left ≡ [] → AreNumbering whole left next done → AreNumbered (forward whole) done
all_last whole left next done none is = record { same = sym (append-nil (map of_node done)) ∙ ap (λ xs. map of_node done ++ map bare (forward xs)) (sym none) ∙ is.same; counted = is.counted }

-- ---- what doesn't ask for numbers

first_same : {A : Type 0} {x y : A} {xs ys : List A} → x ∷ xs ≡ y ∷ ys → x ≡ y
first_same is = same_some (ap (λ zs. slice_get zs 0) is)

rest_same : {A : Type 0} {x y : A} {xs ys : List A} → x ∷ xs ≡ y ∷ ys → xs ≡ ys
rest_same is = ap (drop 1) is

module _ (f : Forms) (form : Form) where
  just_same : (left : List ℕ) (c d : Cont) → d.keeps ≡ c.keeps → KeepsJust (UsedBehind f form left) c → KeepsJust (UsedBehind f form left) d
  just_same left c d same just = subst (λ keeps. KeepsJust (UsedBehind f form left) (record { order = d.order; keeps = keeps })) (sym same) (record { ordered = just.ordered; just = just.just })

  turn_same : (o : Option ℕ) (cs ds : List (Option Cont)) → bare ds ≡ bare cs → IsTurnKept f form o cs → IsTurnKept f form o ds
  turn_same None [] [] same kept = tt
  turn_same None [] (d ∷ ds) same kept = let wrong : Some (keeps_in d) ≡ None = ap (λ zs. slice_get zs 0) same in absurd (none-some (keeps_in d) (sym wrong))
  turn_same None (c ∷ cs) ds same kept = absurd kept
  turn_same (Some body) [] ds same kept = absurd kept
  turn_same (Some body) (None ∷ []) [] same kept = cc
  turn_same (Some body) (None ∷ []) (None ∷ []) same kept = kept
  turn_same (Some body) (None ∷ []) (Some d ∷ []) same kept = let wrong = first_same same in cc
  turn_same (Some body) (None ∷ []) (d ∷ e ∷ ds) same kept = let wrong = rest_same same in cc
  turn_same (Some body) (Some c ∷ []) [] same kept = cc
  turn_same (Some body) (Some c ∷ []) (None ∷ []) same kept = let wrong = first_same same in cc
  turn_same (Some body) (Some c ∷ []) (Some d ∷ []) same kept = (kept.0, just_same [] c d (same_some (first_same same)) kept.1)
  turn_same (Some body) (Some c ∷ []) (d ∷ e ∷ ds) same kept = let wrong = rest_same same in cc
  turn_same (Some body) (None ∷ e ∷ cs) ds same kept = absurd kept
  turn_same (Some body) (Some c ∷ e ∷ cs) ds same kept = absurd kept

  kept_same : (ks : List ℕ) (cs ds : List (Option Cont)) → bare ds ≡ bare cs → AreKept f form ks cs → AreKept f form ks ds
  kept_same [] cs ds same kept = turn_same (turned form.kind form.tails) cs ds same kept
  kept_same (k ∷ ks) [] ds same kept = absurd kept
  kept_same (k ∷ ks) (c ∷ cs) [] same kept = cc
  kept_same (k ∷ ks) (None ∷ cs) (None ∷ ds) same kept = (kept.0, kept_same ks cs ds (rest_same same) kept.1)
  kept_same (k ∷ ks) (None ∷ cs) (Some d ∷ ds) same kept = let wrong = first_same same in cc
  kept_same (k ∷ ks) (Some c ∷ cs) (None ∷ ds) same kept = let wrong = first_same same in cc
  kept_same (k ∷ ks) (Some c ∷ cs) (Some d ∷ ds) same kept = (kept.0, just_same ks c d (same_some (first_same same)) kept.1, kept_same ks cs ds (rest_same same) kept.2)

  types_same : (left : List ℕ) (c d : Option Cont) → keeps_in d ≡ keeps_in c → KeepsTypes (UsedBehindAs f form left) c → KeepsTypes (UsedBehindAs f form left) d
  types_same left None None same typed = tt
  types_same left None (Some d) same typed = cc
  types_same left (Some c) None same typed = cc
  types_same left (Some c) (Some d) same typed = subst (Each (λ (k : Kept). UsedBehindAs f form left k.name k.ty)) (sym (same_some same)) typed

  typed_same : (ks : List ℕ) (cs ds : List (Option Cont)) → bare ds ≡ bare cs → AreTypedAt f form ks cs → AreTypedAt f form ks ds
  typed_same [] cs [] same typed = tt
  typed_same [] [] (d ∷ ds) same typed = cc
  typed_same [] (c ∷ cs) (d ∷ ds) same typed = (types_same [] c d (first_same same) typed.0, typed_same [] cs ds (rest_same same) typed.1)
  typed_same (k ∷ ks) cs [] same typed = tt
  typed_same (k ∷ ks) [] (d ∷ ds) same typed = cc
  typed_same (k ∷ ks) (c ∷ cs) (d ∷ ds) same typed = (types_same ks c d (first_same same) typed.0, typed_same ks cs ds (rest_same same) typed.1)

  conts_same : (ks : List ℕ) (cs ds : List (Option Cont)) → bare ds ≡ bare cs → AreContsAt f form ks cs → AreContsAt f form ks ds
  conts_same ks cs ds same conts = record { kept = kept_same ks cs ds same conts.kept; typed = λ all. typed_same ks cs ds same (conts.typed all) }

module _ (f : Forms) where
  each_node : (forms : List Form) (old : List (List (Option Cont))) (new : List Conts) → map of_node new ≡ map bare old → AllConts f forms old → (n : ℕ) (form : Form) → slice_get forms n ≡ Some form → AreContsAt f form form.parts (conts_of (slice_get new n))
  each_node [] old new same conts n form at = absurd (none-some form at)
  each_node (one ∷ forms) [] new same conts n form at = absurd conts
  each_node (one ∷ forms) (cs ∷ old) [] same conts n form at = cc
  each_node (one ∷ forms) (cs ∷ old) (c ∷ new) same conts zero form at = subst (λ (it : Form). AreContsAt f it it.parts c.of) (same_some at) (conts_same f one one.parts cs c.of (first_same same) conts.0)
  each_node (one ∷ forms) (cs ∷ old) (c ∷ new) same conts (suc n) form at = each_node forms old new (rest_same same) conts.1 n form at

  pub whole : (old : List (List (Option Cont))) (all : List Conts) → AllConts f f.nodes old → AreNumbered old all → AreWhole f all
  whole old all conts numbered = record {
    named = record { each = λ n form at. (each_node f.nodes old all numbered.same conts n form at).kept };
    order = numbered.counted;
    types = λ use_all. record { each = λ n form at. (each_node f.nodes old all numbered.same conts n form at).typed use_all };
  }

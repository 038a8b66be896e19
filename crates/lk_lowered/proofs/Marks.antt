-- Where all functions, lambdas and blocks of a program begin apart, so does what is labelled in a body, and no lambda begins where a block does.
use Rattle.std.proofs.Common.{◌≡◌, ◌⊎◌, inl, inr, refl, sym, ap, subst, ◌∙◌, ℕ, ◌+◌, ◌≤◌, ◌==◌, Bool, true, false, cond, List, [], ◌∷◌, ◌++◌, flat_map, map, Some, None, arith}
use Rattle.std.proofs.lemmas.Bool.Decides.{nat_tests}
use Rattle.std.proofs.lemmas.List.{map-append}
use Rattle.std.specs.Prelude.{find}
use Rattle.std.specs.Option.{option_map}
use Rattle.lk_ast.specs.Functions.{functions_of}
use Rattle.lk_ast.specs.Layers.{Layer, layer}
use Rattle.lk_ast.specs.declared.declaration.FunDef.{FunDef}
use Rattle.lk_ast.specs.declared.declaration.Program.{Program}
use Rattle.lk_ast.specs.declared.expression.Expr.{Expr}
use Rattle.lk_ast.specs.declared.expression.Node.TheOpen.{Node-F}
use Rattle.lk_bag.proofs.Levels.{itself}
use Rattle.lk_bag.specs.Blocks.{acts_on_tables, blocks_in, blocks_of}
use Rattle.lk_ground.proofs.Levels.{own_label, labelled_level, outer}
use Rattle.lk_ground.specs.Language.{function_of}
use Rattle.lk_ground.specs.Law.{AreInstances}
use Rattle.lk_ground.specs.Sites.{labelled_in}
use Rattle.lk_ground.specs.UsesApart.{AreUsesApart}
use Rattle.lk_ground.specs.declared.program.GroundProgram.{GroundProgram}
use Rattle.lk_index.specs.Places.{PlacedLambda, Lambdas, AreApart, ArePlaced, IsNone, each_with, gather, gather_all, lambda_at, lambdas_of}
use Rattle.lk_sound.proofs.BlocksInside.{blocks_inside}
use Rattle.lk_sound.proofs.Gathered.{gather_each, entered, all_gathered, first_gathered}
use Rattle.lk_sound.proofs.Inside.{insides, by_insides}
use Rattle.lk_sound.proofs.Within.{function_within, fun_bodies}
use Rattle.lk_sound.specs.Within.{IsFunctionOf}
use Rattle.lk_types.proofs.Members.{each_of_in, one_in_front, one_in_back}
use Rattle.lk_types.specs.Each.{Each, OneOf}
use Rattle.lk_places.specs.Law.{AreMarksApart}
use Rattle.lk_ir.proofs.Lookups.{equal_self}
use Rattle.lk_lowered.proofs.Lowers.{AreApartThere}
use Rattle.lk_lowered.specs.Meeting.{IsBlockOf, IsInside}

-- ---- how often a number is among others

abbrev one_if : Bool → ℕ
one_if true = 1
one_if false = 0

abbrev pub count : ℕ → List ℕ → ℕ
count n [] = 0
count n (m ∷ ms) = one_if (n == m) + count n ms

count_both : (n : ℕ) (xs ys : List ℕ) → count n (xs ++ ys) ≡ count n xs + count n ys
count_both n [] ys = let e : count n ys ≡ 0 + count n ys = omega arith in e
count_both n (x ∷ xs) ys = let later : count n (xs ++ ys) ≡ count n xs + count n ys = count_both n xs ys in omega arith

not_equal : (n m : ℕ) → (n ≡ m → ⊥) → one_if (n == m) ≡ 0
not_equal n m apart = ap one_if (let e : (n == m) ≡ false = grind (arith, nat_tests) in e)

none_count : (n : ℕ) (ms : List ℕ) → IsNone n ms → count n ms ≡ 0
none_count n [] none = refl
none_count n (m ∷ ms) none = let a : one_if (n == m) ≡ 0 = not_equal n m none.0 in let b : count n ms ≡ 0 = none_count n ms none.1 in omega arith

-- numbers apart come once at most
apart_count : (n : ℕ) (ms : List ℕ) → AreApart ms → count n ms ≤ 1
apart_count n [] apart = omega arith
apart_count n (m ∷ ms) apart = by_test (n == m) refl (apart_count n ms apart.1)
  where
    by_test : (b : Bool) → (n == m) ≡ b → count n ms ≤ 1 → one_if b + count n ms ≤ 1
    by_test true same le = let here : n ≡ m = grind (arith, nat_tests) in let none : count n ms ≡ 0 = none_count n ms (subst (λ k. IsNone k ms) (sym here) apart.0) in let e : one_if true ≡ 1 = refl in omega arith
    by_test false same le = let e : one_if false ≡ 0 = refl in omega arith

count_none : (n : ℕ) (ms : List ℕ) → count n ms ≡ 0 → IsNone n ms
count_none n [] none = tt
count_none n (m ∷ ms) none = ((λ is. let e : one_if (n == m) ≡ 1 = ap one_if (subst (λ k. (n == k) ≡ true) is (equal_self n)) in omega arith), count_none n ms (let e : one_if (n == m) + count n ms ≡ 0 = none in omega arith))

count_apart : (ms : List ℕ) → ((n : ℕ) → count n ms ≤ 1) → AreApart ms
count_apart [] once = tt
count_apart (m ∷ ms) once = (
  count_none m ms (let e : one_if (m == m) ≡ 1 = ap one_if (equal_self m) in let le : one_if (m == m) + count m ms ≤ 1 = once m in omega arith),
  count_apart ms (λ n. let le : one_if (n == m) + count n ms ≤ 1 = once n in omega arith),
)

-- ---- what is labelled is a lambda or a block

abbrev site_of : PlacedLambda → ℕ
site_of placed = placed.site

abbrev start_of : Expr → ℕ
start_of e = e.span.start

abbrev IsMarked : Expr → Type 0
IsMarked e = (n : ℕ) → count n (labelled_in e) ≤ count n (map site_of (gather e [])) + count n (map start_of (blocks_in e))

map_count : {A : Type 0} (h : A → ℕ) (n : ℕ) (xs ys : List A) → count n (map h (xs ++ ys)) ≡ count n (map h xs) + count n (map h ys)
map_count h n xs ys = ap (count n) (map-append h xs ys) ∙ count_both n (map h xs) (map h ys)

all_marked : (n : ℕ) (es : List Expr) → Each IsMarked es → count n (flat_map labelled_in es) ≤ count n (map site_of (gather_each es [])) + count n (map start_of (flat_map blocks_in es))
all_marked n [] all = omega arith
all_marked n (e ∷ es) all =
    let one : count n (labelled_in e) ≤ count n (map site_of (gather e [])) + count n (map start_of (blocks_in e)) = all.0 n in
    let later : count n (flat_map labelled_in es) ≤ count n (map site_of (gather_each es [])) + count n (map start_of (flat_map blocks_in es)) = all_marked n es all.1 in
    let a : count n (labelled_in e ++ flat_map labelled_in es) ≡ count n (labelled_in e) + count n (flat_map labelled_in es) = count_both n (labelled_in e) (flat_map labelled_in es) in
    let b : count n (map site_of (gather_each (e ∷ es) [])) ≡ count n (map site_of (gather e [])) + count n (map site_of (gather_each es [])) = ap (λ found. count n (map site_of found)) (first_gathered e es) ∙ map_count site_of n (gather e []) (gather_each es []) in
    let c : count n (map start_of (blocks_in e ++ flat_map blocks_in es)) ≡ count n (map start_of (blocks_in e)) + count n (map start_of (flat_map blocks_in es)) = map_count start_of n (blocks_in e) (flat_map blocks_in es) in
    omega arith

own_marked : (n : ℕ) (l : Layer) (e : Expr) → count n (own_label l e.span.start) ≤ count n (map site_of (entered l e.span.start [])) + count n (map start_of (itself (acts_on_tables l) e))
own_marked n (Node-F.Lambda l) e = omega arith
own_marked n (Node-F.Table t) e = omega arith
own_marked n (Node-F.Insert t d) e = omega arith
own_marked n (Node-F.Query keys d) e = omega arith
own_marked n (Node-F.Update change) e = omega arith
own_marked n (Node-F.Delete change) e = omega arith
own_marked n other e = omega arith

outer_marked : (n : ℕ) (l : Layer) → Each IsMarked (insides l) → count n (flat_map labelled_in (outer l)) ≤ count n (map site_of (gather_each (insides l) [])) + count n (map start_of (flat_map blocks_in (insides l)))
outer_marked n (Node-F.Query keys d) all = omega arith
outer_marked n (Node-F.Update change) all = omega arith
outer_marked n (Node-F.Delete change) all = omega arith
outer_marked n other all = all_marked n (insides other) all

marked_step : (e : Expr) → Each IsMarked (insides (layer e)) → IsMarked e
marked_step e all n =
    let l = layer e in
    let own : count n (own_label l e.span.start) ≤ count n (map site_of (entered l e.span.start [])) + count n (map start_of (itself (acts_on_tables l) e)) = own_marked n l e in
    let inner : count n (flat_map labelled_in (outer l)) ≤ count n (map site_of (gather_each (insides l) [])) + count n (map start_of (flat_map blocks_in (insides l))) = outer_marked n l all in
    let a : count n (labelled_in e) ≡ count n (own_label l e.span.start) + count n (flat_map labelled_in (outer l)) = ap (count n) (labelled_level e) ∙ count_both n (own_label l e.span.start) (flat_map labelled_in (outer l)) in
    let b : count n (map site_of (gather e [])) ≡ count n (map site_of (entered l e.span.start [])) + count n (map site_of (gather_each (insides l) [])) = ap (λ found. count n (map site_of found)) (all_gathered e) ∙ map_count site_of n (entered l e.span.start []) (gather_each (insides l) []) in
    let c : count n (map start_of (blocks_in e)) ≡ count n (map start_of (itself (acts_on_tables l) e)) + count n (map start_of (flat_map blocks_in (insides l))) = ap (λ found. count n (map start_of found)) (blocks_inside e) ∙ map_count start_of n (itself (acts_on_tables l) e) (flat_map blocks_in (insides l)) in
    omega arith

marked : (e : Expr) → IsMarked e
marked = by_insides IsMarked marked_step

-- ---- of a program

functions_level : (functions : List FunDef) (found : Lambdas) → gather_all (each_with (λ (f : FunDef). gather f.body) functions) found ≡ gather_each (fun_bodies functions) found
functions_level [] found = refl
functions_level (f ∷ functions) found = functions_level functions (gather f.body found)

-- a body has no more of them than all bodies
lambdas_less : (n : ℕ) (fs : List FunDef) (f : FunDef) → OneOf (λ other. other ≡ f) fs → count n (map site_of (gather f.body [])) ≤ count n (map site_of (gather_each (fun_bodies fs) []))
lambdas_less n [] f one = absurd one
lambdas_less n (g ∷ fs) f one = by_side one (lambdas_less n fs f)
  where
    both : count n (map site_of (gather_each (fun_bodies (g ∷ fs)) [])) ≡ count n (map site_of (gather g.body [])) + count n (map site_of (gather_each (fun_bodies fs) []))
    both = ap (λ found. count n (map site_of found)) (first_gathered g.body (fun_bodies fs)) ∙ map_count site_of n (gather g.body []) (gather_each (fun_bodies fs) [])

    by_side : (g ≡ f) ⊎ OneOf (λ other. other ≡ f) fs → (OneOf (λ other. other ≡ f) fs → count n (map site_of (gather f.body [])) ≤ count n (map site_of (gather_each (fun_bodies fs) []))) → count n (map site_of (gather f.body [])) ≤ count n (map site_of (gather_each (fun_bodies (g ∷ fs)) []))
    by_side (inl is) later = let e : count n (map site_of (gather g.body [])) ≡ count n (map site_of (gather f.body [])) = ap (λ (h : FunDef). count n (map site_of (gather h.body []))) is in let b = both in omega arith
    by_side (inr one) later = let le : count n (map site_of (gather f.body [])) ≤ count n (map site_of (gather_each (fun_bodies fs) [])) = later one in let b = both in omega arith

abbrev all_blocks : List FunDef → List Expr
all_blocks fs = flat_map (λ (f : FunDef). blocks_in f.body) fs

blocks_less : (n : ℕ) (fs : List FunDef) (f : FunDef) → OneOf (λ other. other ≡ f) fs → count n (map start_of (blocks_in f.body)) ≤ count n (map start_of (all_blocks fs))
blocks_less n [] f one = absurd one
blocks_less n (g ∷ fs) f one = by_side one (blocks_less n fs f)
  where
    both : count n (map start_of (all_blocks (g ∷ fs))) ≡ count n (map start_of (blocks_in g.body)) + count n (map start_of (all_blocks fs))
    both = map_count start_of n (blocks_in g.body) (all_blocks fs)

    by_side : (g ≡ f) ⊎ OneOf (λ other. other ≡ f) fs → (OneOf (λ other. other ≡ f) fs → count n (map start_of (blocks_in f.body)) ≤ count n (map start_of (all_blocks fs))) → count n (map start_of (blocks_in f.body)) ≤ count n (map start_of (all_blocks (g ∷ fs)))
    by_side (inl is) later = let e : count n (map start_of (blocks_in g.body)) ≡ count n (map start_of (blocks_in f.body)) = ap (λ (h : FunDef). count n (map start_of (blocks_in h.body))) is in let b = both in omega arith
    by_side (inr one) later = let le : count n (map start_of (blocks_in f.body)) ≤ count n (map start_of (all_blocks fs)) = later one in let b = both in omega arith

-- ---- apart

none_back : (n : ℕ) (ms ns : List ℕ) → IsNone n (ms ++ ns) → IsNone n ns
none_back n [] ns none = none
none_back n (m ∷ ms) ns none = none_back n ms ns none.1

-- a block's place is that of no lambda
none_of_block : (blocks : List Expr) (found : Lambdas) (block : Expr) → AreApart (map start_of blocks ++ map site_of found) → OneOf (λ other. other ≡ block) blocks → IsNone block.span.start (map site_of found)
none_of_block [] found block apart one = absurd one
none_of_block (e ∷ blocks) found block apart (inl is) = subst (λ (d : Expr). IsNone d.span.start (map site_of found)) is (none_back e.span.start (map start_of blocks) (map site_of found) apart.0)
none_of_block (e ∷ blocks) found block apart (inr later) = none_of_block blocks found block apart.1 later

no_lambda_found : (n : ℕ) (found : Lambdas) → IsNone n (map site_of found) → find (λ (placed : PlacedLambda). placed.site == n) found ≡ None
no_lambda_found n [] none = refl
no_lambda_found n (placed ∷ found) none =
    ap (λ b. cond b (Some placed) (find (λ (placed : PlacedLambda). placed.site == n) found)) (let other : placed.site ≡ n → ⊥ = λ is. none.0 (sym is) in let e : (placed.site == n) ≡ false = grind (arith, nat_tests) in e)
    ∙ no_lambda_found n found none.1

module _ (p : Program) where
  in_all : (fs : List FunDef) (f : FunDef) (block : Expr) → OneOf (λ other. other ≡ f) fs → OneOf (λ other. other ≡ block) (blocks_in f.body) → OneOf (λ other. other ≡ block) (all_blocks fs)
  in_all [] f block one there = absurd one
  in_all (g ∷ fs) f block (inl is) there = one_in_front (λ other. other ≡ block) (blocks_in g.body) (all_blocks fs) (subst (λ (h : FunDef). OneOf (λ other. other ≡ block) (blocks_in h.body)) (sym is) there)
  in_all (g ∷ fs) f block (inr later) there = one_in_back (λ other. other ≡ block) (blocks_in g.body) (all_blocks fs) (in_all fs f block later there)

  pub body_inside : (f : FunDef) → IsFunctionOf p f → IsInside p f.body
  body_inside f declared = record {
    lambdas = function_within p f declared;
    blocks = each_of_in (IsBlockOf p) (blocks_in f.body) (λ block there. in_all (functions_of p) f block declared there);
  }

module _ (p : Program) (apart : AreMarksApart p) where
  abbrev lambdas : List ℕ
  lambdas = map site_of (lambdas_of (functions_of p))

  abbrev blocks : List ℕ
  blocks = map start_of (blocks_of p)

  pub no_lambda : (block : Expr) → IsBlockOf p block → lambda_at p block.span.start ≡ None
  no_lambda block one = ap (option_map (λ (placed : PlacedLambda). placed.lambda)) (no_lambda_found block.span.start (lambdas_of (functions_of p)) (none_of_block (blocks_of p) (lambdas_of (functions_of p)) block apart one))

  pub sites_apart : (f : FunDef) → IsFunctionOf p f → AreApart (labelled_in f.body)
  sites_apart f declared = count_apart (labelled_in f.body) (λ n.
      let a : count n (labelled_in f.body) ≤ count n (map site_of (gather f.body [])) + count n (map start_of (blocks_in f.body)) = marked f.body n in
      let b : count n (map site_of (gather f.body [])) ≤ count n (map site_of (gather_each (fun_bodies (functions_of p)) [])) = lambdas_less n (functions_of p) f declared in
      let c : count n (map start_of (blocks_in f.body)) ≤ count n blocks = blocks_less n (functions_of p) f declared in
      let d : count n lambdas ≡ count n (map site_of (gather_each (fun_bodies (functions_of p)) [])) = ap (λ found. count n (map site_of found)) (functions_level (functions_of p) []) in
      let e : count n (blocks ++ lambdas) ≡ count n blocks + count n lambdas = count_both n blocks lambdas in
      let once : count n (blocks ++ lambdas) ≤ 1 = apart_count n (blocks ++ lambdas) apart in
      omega arith)

pub all_apart : (g : GroundProgram) → AreInstances g → ArePlaced g.program.now → AreUsesApart g.program.now → AreMarksApart g.program.now → AreApartThere g
all_apart g are placed uses marks = record {
  declared = λ i fun is. body_inside g.program.now (function_of fun) (are.declared i fun is);
  uses = λ i fun is. uses (function_of fun) (are.declared i fun is);
  sites = λ i fun is. sites_apart g.program.now marks (function_of fun) (are.declared i fun is);
  placed = placed;
  no_lambda = no_lambda g.program.now marks;
}

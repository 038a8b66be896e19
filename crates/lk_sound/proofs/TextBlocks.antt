-- Where all queries, readings and changes of tables in an expression are some of the program, so are those of the expressions in it;
-- and the bodies of its functions and of its lambdas are such expressions. The place where one begins finds it.
use Rattle.std.proofs.Common.{◌≡◌, ◌⊎◌, inl, inr, true, List, [], ◌∷◌, ◌++◌, flat_map, Some, sym, subst}
use Rattle.lk_ast.specs.Functions.{functions_of}
use Rattle.lk_ast.specs.Layers.{layer}
use Rattle.lk_ast.specs.declared.declaration.FunDef.{FunDef}
use Rattle.lk_ast.specs.declared.declaration.Program.{Program}
use Rattle.lk_ast.specs.declared.expression.Expr.{Expr}
use Rattle.lk_bag.proofs.Levels.{itself}
use Rattle.lk_bag.specs.Blocks.{acts_on_tables, blocks_in, blocks_of, block_at, AreBlocksApart}
use Rattle.lk_index.specs.Places.{PlacedLambda, Lambdas}
use Rattle.lk_types.specs.Each.{Each, OneOf}
use Rattle.lk_sound.proofs.BlocksInside.{blocks_inside}
use Rattle.lk_sound.proofs.Found.{apart_found}
use Rattle.lk_sound.proofs.Gathered.{gather_each, entered, all_gathered, one_of_each}
use Rattle.lk_sound.proofs.Inside.{insides, by_insides}
use Rattle.lk_types.proofs.Members.{each_of_in, one_of_both, one_in_front, one_in_back, each_front, each_back, each_in_flat}
use Rattle.lk_sound.proofs.Within.{IsIn, fun_bodies, own_inside, lambda_there}
use Rattle.lk_sound.specs.Points.{AreBlocksOf}
use Rattle.lk_sound.specs.Within.{IsFunctionOf, IsLambdaOf}

module _ {A B : Type 0} (P : B → Type 0) (f : A → List B) where
  one_of_all : (xs : List A) → OneOf (λ x. OneOf P (f x)) xs → OneOf P (flat_map f xs)
  one_of_all [] one = one
  one_of_all (x ∷ xs) (inl here) = one_in_front P (f x) (flat_map f xs) here
  one_of_all (x ∷ xs) (inr later) = one_in_back P (f x) (flat_map f xs) (one_of_all xs later)

-- one of the program
abbrev pub IsBlockOf : Program → Expr → Type 0
IsBlockOf p block = OneOf (λ other. other ≡ block) (blocks_of p)

module _ (p : Program) (e : Expr) (blocks : AreBlocksOf p e) where
  parted : Each (IsBlockOf p) (itself (acts_on_tables (layer e)) e ++ flat_map blocks_in (insides (layer e)))
  parted = subst (Each (IsBlockOf p)) (blocks_inside e) blocks

  pub insides_blocks : Each (AreBlocksOf p) (insides (layer e))
  insides_blocks = each_in_flat (IsBlockOf p) blocks_in (insides (layer e)) (each_back (IsBlockOf p) (itself (acts_on_tables (layer e)) e) (flat_map blocks_in (insides (layer e))) parted)

  -- the expression itself, where it acts on tables
  pub own_block : acts_on_tables (layer e) ≡ true → IsBlockOf p e
  own_block acts =
      let own : Each (IsBlockOf p) (itself true e) =
      subst (λ b. Each (IsBlockOf p) (itself b e)) acts (each_front (IsBlockOf p) (itself (acts_on_tables (layer e)) e) (flat_map blocks_in (insides (layer e))) parted) in
      own.0

-- the place where it begins finds it
pub block_found : (p : Program) (block : Expr) → AreBlocksApart p → IsBlockOf p block → block_at p block.span.start ≡ Some block
block_found p block apart there = apart_found (λ (other : Expr). other.span.start) (blocks_of p) block apart there

-- ---- the bodies of functions

abbrev body_blocks : FunDef → List Expr
body_blocks f = blocks_in f.body

in_function : (Q : Expr → Type 0) (functions : List FunDef) (f : FunDef) → OneOf (λ other. other ≡ f) functions → OneOf Q (blocks_in f.body) → OneOf Q (flat_map body_blocks functions)
in_function Q [] f one there = absurd one
in_function Q (g ∷ functions) f (inl is) there = one_in_front Q (body_blocks g) (flat_map body_blocks functions) (subst (λ (h : FunDef). OneOf Q (blocks_in h.body)) (sym is) there)
in_function Q (g ∷ functions) f (inr later) there = one_in_back Q (body_blocks g) (flat_map body_blocks functions) (in_function Q functions f later there)

pub function_blocks : (p : Program) (f : FunDef) → IsFunctionOf p f → AreBlocksOf p f.body
function_blocks p f declared = each_of_in (IsBlockOf p) (blocks_in f.body) (λ block there. in_function (λ other. other ≡ block) (functions_of p) f declared there)

-- ---- the bodies of lambdas

-- what acts on tables in the body of one of its lambdas does so in it
abbrev HoldsBlocks : Expr → Type 0
HoldsBlocks e = (placed : PlacedLambda) (block : Expr) → IsIn placed e → OneOf (λ other. other ≡ block) (blocks_in placed.lambda.body) → OneOf (λ other. other ≡ block) (blocks_in e)

one_holds : (es : List Expr) → Each HoldsBlocks es → (placed : PlacedLambda) (block : Expr) → OneOf (IsIn placed) es → OneOf (λ other. other ≡ block) (blocks_in placed.lambda.body) → OneOf (λ e. OneOf (λ other. other ≡ block) (blocks_in e)) es
one_holds [] all placed block one there = one
one_holds (e ∷ es) all placed block (inl here) there = inl (all.0 placed block here there)
one_holds (e ∷ es) all placed block (inr later) there = inr (one_holds es all.1 placed block later there)

holds_step : (e : Expr) → Each HoldsBlocks (insides (layer e)) → HoldsBlocks e
holds_step e all placed block one there =
    in_e (by_side (one_of_both (λ other. other ≡ placed) own (gather_each (insides (layer e)) []) (subst (OneOf (λ other. other ≡ placed)) (all_gathered e) one)))
  where
    own : Lambdas
    own = entered (layer e) e.span.start []

    by_side : OneOf (λ other. other ≡ placed) own ⊎ OneOf (λ other. other ≡ placed) (gather_each (insides (layer e)) []) → OneOf (λ d. OneOf (λ other. other ≡ block) (blocks_in d)) (insides (layer e))
    by_side (inl itself) = own_inside (λ d. OneOf (λ other. other ≡ block) (blocks_in d)) (layer e) e.span.start placed itself there
    by_side (inr below) = one_holds (insides (layer e)) all placed block (one_of_each (λ other. other ≡ placed) (insides (layer e)) below) there

    in_e : OneOf (λ d. OneOf (λ other. other ≡ block) (blocks_in d)) (insides (layer e)) → OneOf (λ other. other ≡ block) (blocks_in e)
    in_e found =
        subst (OneOf (λ other. other ≡ block)) (sym (blocks_inside e))
        (one_in_back (λ other. other ≡ block) (itself (acts_on_tables (layer e)) e) (flat_map blocks_in (insides (layer e))) (one_of_all (λ other. other ≡ block) blocks_in (insides (layer e)) found))

all_hold : (e : Expr) → HoldsBlocks e
all_hold = by_insides HoldsBlocks holds_step

in_bodies : (P : Expr → Type 0) (functions : List FunDef) → OneOf (λ e. OneOf P (blocks_in e)) (fun_bodies functions) → OneOf P (flat_map body_blocks functions)
in_bodies P [] one = one
in_bodies P (f ∷ functions) (inl here) = one_in_front P (body_blocks f) (flat_map body_blocks functions) here
in_bodies P (f ∷ functions) (inr later) = one_in_back P (body_blocks f) (flat_map body_blocks functions) (in_bodies P functions later)

pub lambda_blocks : (p : Program) (placed : PlacedLambda) → IsLambdaOf p placed → AreBlocksOf p placed.lambda.body
lambda_blocks p placed declared =
    let bodies : List Expr = fun_bodies (functions_of p) in
    each_of_in (IsBlockOf p) (blocks_in placed.lambda.body)
    (λ block there. in_bodies (λ other. other ≡ block) (functions_of p) (one_holds bodies (each_of_in HoldsBlocks bodies (λ e one. all_hold e)) placed block (lambda_there p placed declared) there))

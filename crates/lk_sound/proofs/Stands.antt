-- Expressions that stand in the program, with their lambdas and with their queries, readings and changes of tables; so do the
-- expressions in them, and the bodies of functions and of lambdas.
use Rattle.std.proofs.Common.{◌≡◌, List, [], ◌∷◌, Option, Some, subst}
use Rattle.lk_ast.specs.Layers.{Layer, layer}
use Rattle.lk_ast.specs.declared.declaration.FunDef.{FunDef}
use Rattle.lk_ast.specs.declared.declaration.Program.{Program}
use Rattle.lk_ast.specs.declared.expression.Case.{Case}
use Rattle.lk_ast.specs.declared.expression.Expr.{Expr}
use Rattle.lk_ast.specs.declared.expression.LastCase.{LastCase}
use Rattle.lk_ast.specs.declared.expression.Node.TheOpen.{Node-F}
use Rattle.lk_ast.specs.declared.place.Word.{Word}
use Rattle.lk_evaluation.specs.Syntax.{parts_of}
use Rattle.lk_index.specs.Places.{PlacedLambda}
use Rattle.lk_types.proofs.Members.{each_front, each_back}
use Rattle.lk_types.specs.Each.{Each}
use Rattle.lk_sound.proofs.Inside.{insides, bodies_of, last_body}
use Rattle.lk_sound.proofs.TextBlocks.{insides_blocks, function_blocks, lambda_blocks}
use Rattle.lk_sound.proofs.Within.{insides_within, function_within, lambda_within}
use Rattle.lk_sound.specs.Points.{AreBlocksOf}
use Rattle.lk_sound.specs.Within.{IsFunctionOf, IsLambdaOf, IsWithin}

-- all lambdas in it, and all that acts on tables in it, are some of the program
abbrev pub StandsIn : Program → Expr → Type 0
StandsIn p e = IsWithin p e × AreBlocksOf p e

-- ---- the parts of a node

-- the parts that are evaluated first are right inside
first_parts : (P : Expr → Type 0) (l : Layer) → Each P (insides l) → Each P (parts_of l)
first_parts P (Node-F.Lambda l) all = tt
first_parts P (Node-F.Var x d rest) all = (all.0, tt)
first_parts P (Node-F.Seq d rest) all = (all.0, tt)
first_parts P (Node-F.If c d e) all = (all.0, tt)
first_parts P (Node-F.And a b) all = (all.0, tt)
first_parts P (Node-F.Or a b) all = (all.0, tt)
first_parts P (Node-F.Switch d cases last) all = (all.0, tt)
first_parts P (Node-F.ForList x d body) all = (all.0, tt)
first_parts P (Node-F.ForTable x rows body) all = (all.0, tt)
first_parts P (Node-F.Where c d) all = (all.0, tt)
first_parts P (Node-F.Query keys d) all = tt
first_parts P (Node-F.Update change) all = tt
first_parts P (Node-F.Delete change) all = tt
first_parts P other all = all

each_with : {A : Type 0} (P Q : A → Type 0) (xs : List A) → Each P xs → Each Q xs → Each (λ x. P x × Q x) xs
each_with P Q [] ps qs = tt
each_with P Q (x ∷ xs) ps qs = ((ps.0, qs.0), each_with P Q xs ps.1 qs.1)

insides_stand : (p : Program) (e : Expr) → StandsIn p e → Each (StandsIn p) (insides (layer e))
insides_stand p e (within, blocks) = each_with (IsWithin p) (AreBlocksOf p) (insides (layer e)) (insides_within p e within) (insides_blocks p e blocks)

pub parts_stand : (p : Program) (e : Expr) → StandsIn p e → Each (StandsIn p) (parts_of (layer e))
parts_stand p e stands = first_parts (StandsIn p) (layer e) (insides_stand p e stands)

module _ (p : Program) (e : Expr) where
  abbrev AreThere : Layer → Type 0
  AreThere l = Each (StandsIn p) (insides l)

  there_of : {l : Layer} → layer e ≡ l → StandsIn p e → AreThere l
  there_of is stands = subst AreThere is (insides_stand p e stands)

  -- ---- what is evaluated in the stead of a node

  pub var_stands : {x : Word} {d rest : Expr} → layer e ≡ Node-F.Var x d rest → StandsIn p e → StandsIn p rest
  var_stands is stands = (there_of is stands).1.0

  pub seq_stands : {d rest : Expr} → layer e ≡ Node-F.Seq d rest → StandsIn p e → StandsIn p rest
  seq_stands is stands = (there_of is stands).1.0

  pub if_stands : {c a b : Expr} → layer e ≡ Node-F.If c a b → StandsIn p e → StandsIn p a × StandsIn p b
  if_stands is stands = let all : AreThere (Node-F.If _ _ _) = there_of is stands in (all.1.0, all.1.1.0)

  pub and_stands : {a b : Expr} → layer e ≡ Node-F.And a b → StandsIn p e → StandsIn p b
  and_stands is stands = (there_of is stands).1.0

  pub or_stands : {a b : Expr} → layer e ≡ Node-F.Or a b → StandsIn p e → StandsIn p b
  or_stands is stands = (there_of is stands).1.0

  pub where_stands : {c body : Expr} → layer e ≡ Node-F.Where c body → StandsIn p e → StandsIn p body
  where_stands is stands = (there_of is stands).1.0

  pub for_list_stands : {x : Word} {d body : Expr} → layer e ≡ Node-F.ForList x d body → StandsIn p e → StandsIn p body
  for_list_stands is stands = (there_of is stands).1.0

  pub for_table_stands : {x : Word} {rows body : Expr} → layer e ≡ Node-F.ForTable x rows body → StandsIn p e → StandsIn p body
  for_table_stands is stands = (there_of is stands).1.0

  pub cases_stands : {d : Expr} {cases : List Case} {last : Option LastCase} → layer e ≡ Node-F.Switch d cases last → StandsIn p e → Each (λ case. StandsIn p case.body) cases
  cases_stands {cases = cases} {last = last} is stands = of_bodies cases (each_front (StandsIn p) (bodies_of cases) (last_body last) (there_of is stands).1)
    where
      of_bodies : (cases : List Case) → Each (StandsIn p) (bodies_of cases) → Each (λ case. StandsIn p case.body) cases
      of_bodies [] all = tt
      of_bodies (case ∷ cases) all = (all.0, of_bodies cases all.1)

  pub last_stands : {d : Expr} {cases : List Case} {last : LastCase} → layer e ≡ Node-F.Switch d cases (Some last) → StandsIn p e → StandsIn p last.body
  last_stands {cases = cases} {last = last} is stands = (each_back (StandsIn p) (bodies_of cases) (last_body (Some last)) (there_of is stands).1).0

-- ---- the bodies of functions and lambdas

pub function_stands : (p : Program) (f : FunDef) → IsFunctionOf p f → StandsIn p f.body
function_stands p f declared = (function_within p f declared, function_blocks p f declared)

pub lambda_stands : (p : Program) (placed : PlacedLambda) → IsLambdaOf p placed → StandsIn p placed.lambda.body
lambda_stands p placed declared = (lambda_within p placed declared, lambda_blocks p placed declared)

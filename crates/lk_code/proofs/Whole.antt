-- Sound code that runs at both places has the bodies of all functions.
use Rattle.std.proofs.Common.{◌≡◌, refl, ap, ℕ, true, false, Option, Some, None}
use Rattle.std.specs.Prelude.{IsSome}
use Rattle.lk_ast.specs.declared.place.Loc.{Loc}
use Rattle.lk_ast.specs.declared.place.Loc.TheVariants.{Client, Server, Any}
use Rattle.lk_ir.specs.Tables.{body_at}
use Rattle.lk_ir.specs.declared.nodes.Body.{Body}
use Rattle.lk_code.specs.Parts.{HasBody}
use Rattle.lk_code.specs.Running.{HasCode, RunsAt, is_at}
use Rattle.lk_code.specs.Sound.{AreSound}
use Rattle.lk_code.specs.Tables.{fun_info, is_function}
use Rattle.lk_code.specs.TypedLaw.{IsWhole}
use Rattle.lk_code.specs.declared.infos.FunInfo.{FunInfo}
use Rattle.lk_code.specs.declared.infos.FunKind.{FunKind}
use Rattle.lk_code.specs.declared.infos.FunKind.TheVariants as fun
use Rattle.lk_code.specs.declared.tables.Contents.{Contents}

some_is : (o : Option Body) → IsSome o → (b : Body) × (o ≡ Some b)
some_is None is = let wrong : false ≡ true = is in cc
some_is (Some b) is = (b, refl)

module _ (c : Contents) where
  body_by : (label : ℕ) (kind : FunKind) → is_function kind ≡ true → HasCode c label kind → HasBody c.tables.forms label
  body_by label fun.Print is code = let wrong : false ≡ true = is in cc
  body_by label fun.Top is code = some_is (body_at c.tables.forms label) code
  body_by label fun.Lambda is code = some_is (body_at c.tables.forms label) code
  body_by label fun.Query is code = let wrong : false ≡ true = is in cc
  body_by label fun.TableRead is code = let wrong : false ≡ true = is in cc
  body_by label fun.Insert is code = let wrong : false ≡ true = is in cc
  body_by label fun.Update is code = let wrong : false ≡ true = is in cc
  body_by label fun.Delete is code = let wrong : false ≡ true = is in cc

  code_by : RunsAt c Client → RunsAt c Server → (label : ℕ) (i : FunInfo) → fun_info c.tables label ≡ Some i → (place : Loc) → i.place ≡ place → HasCode c label i.kind
  code_by client server label i is Client at = client.labels label i is (ap (λ p. is_at p Client) at)
  code_by client server label i is Server at = server.labels label i is (ap (λ p. is_at p Server) at)
  code_by client server label i is Any at = client.labels label i is (ap (λ p. is_at p Client) at)

  pub whole_law : AreSound c.tables → RunsAt c Client → RunsAt c Server → IsWhole c.tables
  whole_law sound client server = record { sound = sound; bodies = λ label i is function. body_by label i.kind function (code_by client server label i is i.place refl) }

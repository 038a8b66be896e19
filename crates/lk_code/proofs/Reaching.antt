-- A node that reads or changes tables does what its label does, with values of the types of its parameters.
use Rattle.std.proofs.Common.{◌≡◌, refl, sym, ap, subst, ◌∙◌, ℕ, true, false, List, Some}
use Rattle.std.specs.Option.{option_map}
use Rattle.lk_ast.specs.declared.place.Loc.TheVariants.{Server}
use Rattle.lk_ast.specs.declared.place.Span.{Span}
use Rattle.lk_ast.specs.declared.value.Value.{Value}
use Rattle.lk_evaluation.specs.Evaluation.{Act, Primitive, Reading, Uses, Writing}
use Rattle.lk_fits.specs.Values.{FitEach}
use Rattle.lk_ir.specs.Environments.{Env}
use Rattle.lk_ir.specs.LetNormal.{Point, act, reach}
use Rattle.lk_ir.specs.Tables.{form_at}
use Rattle.lk_ir.specs.Uses.{Needs}
use Rattle.lk_ir.specs.declared.nodes.Block.{Block}
use Rattle.lk_ir.specs.declared.nodes.Block.TheVariants as block
use Rattle.lk_ir.specs.declared.nodes.Form.{Form}
use Rattle.lk_ir.specs.declared.nodes.Kept.{Kept}
use Rattle.lk_ir.specs.declared.nodes.Kind.{Kind}
use Rattle.lk_ir.specs.declared.nodes.Kind.TheVariants as kind
use Rattle.lk_types.proofs.Parts.{same_some}
use Rattle.lk_types.specs.declared.ground.Ground.{Ground}
use Rattle.lk_code.proofs.Acting.{site_there}
use Rattle.lk_code.proofs.Naming.{kept_found}
use Rattle.lk_code.specs.Acting.{FitNames}
use Rattle.lk_code.specs.Meaning.{primitive}
use Rattle.lk_code.specs.Parts as typed
use Rattle.lk_code.specs.Parts.{Asked, Context, Info, Rule, captures}
use Rattle.lk_code.specs.Sound.{info_of, kind_of, told_by}
use Rattle.lk_code.specs.Tables.{site_of}
use Rattle.lk_code.specs.TypedLaw.{IsWhole, Reaches}
use Rattle.lk_code.specs.Values.{IsFun}
use Rattle.lk_code.specs.declared.tables.CodeTables.{CodeTables}

abbrev reaching : Block → ℕ → List Value → Primitive
reaching block.Query site args = Reading site args
reaching block.TableRead site args = Reading site args
reaching block.Insert site args = Writing site args
reaching block.Update site args = Writing site args
reaching block.Delete site args = Writing site args

captured_so : (b : Block) (at : Span) (args values : List Value) → captures b ≡ true → ◌≡◌ {A = Act Point} (reach at b (Some args) values) (Uses Server (reaching b at.start args))
captured_so block.Query at args values takes = refl
captured_so block.TableRead at args values takes = refl
captured_so block.Insert at args values takes = let wrong : false ≡ true = takes in cc
captured_so block.Update at args values takes = refl
captured_so block.Delete at args values takes = refl

module _ (c : CodeTables) (whole : IsWhole c) (n : ℕ) (form : Form) (b : Block) (label : ℕ) (kept : List Kept) (there : form_at c.forms n ≡ Some form) (is : form.kind ≡ kind.Reach b label kept) where
  by_block : (d : Block) (site : ℕ) (args : List Value) → site_of c.forms label ≡ site → primitive c (kind_of d) label args ≡ Some (reaching d site args)
  by_block block.Query site args at = ap (λ s. Some (Reading s args)) at
  by_block block.TableRead site args at = ap (λ s. Some (Reading s args)) at
  by_block block.Insert site args at = ap (λ s. Some (Writing s args)) at
  by_block block.Update site args at = ap (λ s. Some (Writing s args)) at
  by_block block.Delete site args at = ap (λ s. Some (Writing s args)) at

  made : (of : Info) → told_by c label ≡ Some of → (args : List Value) → FitEach (IsFun c) args of.params → (a : Act Point) → a ≡ Uses Server (reaching b form.at.start args) → Reaches c label of.result a
  made of told args fit a acts =
      let found = whole.sound.blocks n form b label kept there is in
      let same : of ≡ info_of found.0 = same_some (sym told ∙ ap (option_map info_of) found.1) in
      record {
        info = found.0;
        told = found.1;
        args = args;
        fit = subst (FitEach (IsFun c) args) (ap (λ (i : Info). i.params) same) fit;
        result = sym (ap (λ (i : Info). i.result) same);
        one = reaching b form.at.start args;
        does = ap (λ k. primitive c k label args) found.2 ∙ by_block b form.at.start args (site_there (IsFun c) c.forms (told_by c) whole.sound.forms n form there b label kept is);
        acts = acts;
      }

  by_rule : {k : Kind} {context : Context} {ts : List Ground} {asked : List Asked} {t : Ground} → Rule c.forms (told_by c) context k ts asked t → k ≡ kind.Reach b label kept → (names : Env) → FitNames (IsFun c) (Needs k) context names
      → (values : List Value) → FitEach (IsFun c) values ts → Reaches c label t (act c.forms form.at k form.tails names values)
  by_rule (typed.insert {label = l} {of = of} told params) same names fit values fits =
      let block_is : block.Insert ≡ b = cc in
      let label_is : l ≡ label = cc in
      made of (subst (λ m. told_by c m ≡ Some of) label_is told) values (subst (FitEach (IsFun c) values) (sym params) fits) _ (ap (λ d. Uses Server (reaching d form.at.start values)) block_is)
  by_rule {context = context} (typed.reach {b = d} {label = l} {kept = ks} {of = of} takes told are) same names fit values fits =
      let block_is : d ≡ b = cc in
      let label_is : l ≡ label = cc in
      let found = kept_found (IsFun c) c.forms context names ks of.params are (λ x among. fit x among) in
      made of (subst (λ m. told_by c m ≡ Some of) label_is told) found.values found.fit _
      (ap (λ o. reach form.at d o values) found.are ∙ captured_so d form.at found.values values takes ∙ ap (λ e. Uses Server (reaching e form.at.start found.values)) block_is)
  by_rule other same names fit values fits = cc

  pub reaches_law : (context : Context) (ts : List Ground) (asked : List Asked) (t : Ground) → Rule c.forms (told_by c) context form.kind ts asked t → (names : Env) → FitNames (IsFun c) (Needs form.kind) context names
      → (values : List Value) → FitEach (IsFun c) values ts → Reaches c label t (act c.forms form.at form.kind form.tails names values)
  reaches_law context ts asked t rule names fit values fits = by_rule rule is names fit values fits

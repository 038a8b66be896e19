-- The rest of a frame goes on where that part of its node has its value.
use Rattle.std.proofs.Common.{◌≡◌, sym, ap, ◌∙◌, ℕ, suc, ◌+◌, true, false, List, [], ◌∷◌, ◌++◌, Option, Some, drop, take, length, length-append, map, arith}
use Rattle.std.proofs.Math.Seq.{drop-append_seam, take-append_seam}
use Rattle.std.proofs.lemmas.Bool.Decides.{nat_tests}
use Rattle.std.specs.Option.{option_and_then}
use Rattle.std.specs.Prelude.{nat_lt, if◌then◌else◌}
use Rattle.lk_ast.specs.declared.place.Loc.{Loc}
use Rattle.lk_ast.specs.declared.value.Value.{Value}
use Rattle.lk_ast.specs.declared.value.Value.TheVariants as value
use Rattle.lk_evaluation.specs.Run.{Goes, Run}
use Rattle.lk_ir.proofs.Resumes.{kept_again, resumes}
use Rattle.lk_ir.specs.Continuing.{only}
use Rattle.lk_ir.specs.Environments.{Env, bind, lookup_all}
use Rattle.lk_ir.specs.Law.{IsContAt}
use Rattle.lk_ir.specs.LetNormal.{Point, under}
use Rattle.lk_ir.specs.Tables.{form_at, names_of}
use Rattle.lk_ir.specs.declared.nodes.Cont.{Cont}
use Rattle.lk_ir.specs.declared.nodes.Form.{Form}
use Rattle.lk_ir.specs.declared.nodes.Kind.TheVariants as kind
use Rattle.lk_moves.specs.Frames as frames
use Rattle.lk_moves.specs.Frames.{Part, Turn, continued}
use Rattle.lk_operators.specs.Values.{list_in}
use Rattle.lk_code.specs.Law.{frame}
use Rattle.lk_code.specs.Meaning.{at_home, continues_as, frame_meant, goes_on, kept_names, language, turn_meant, turn_of}
use Rattle.lk_code.specs.Sound.{AreSound}
use Rattle.lk_code.specs.Tables.{cont_at, first_frame}
use Rattle.lk_code.specs.declared.tables.CodeTables.{CodeTables}
use Rattle.lk_code.specs.declared.tables.Home.{Home}

not_before : (n m : ℕ) → nat_lt (n + m) n ≡ false
not_before n m = grind (arith, nat_tests)

not_itself : (n : ℕ) → nat_lt n n ≡ false
not_itself n = grind (arith, nat_tests)

is_within : (n m : ℕ) → nat_lt n (n + suc m) ≡ true
is_within n m = grind (arith, nat_tests)

module _ (c : CodeTables) (sound : AreSound c) (h : Home) (form : Form) (cont : Cont) (there : form_at c.forms h.node ≡ Some form) (is : cont_at c h ≡ Some cont) (place : Loc) (v : Value) (r : Run) where
  abbrev number : ℕ
  number = first_frame c + cont.order

  -- what a frame with this number stands for, by what it holds
  meant : (env : List Value) → frame_meant c place (frame number env) ≡ at_home c place h form cont env
  meant env =
      ap (λ o. option_and_then (λ h. option_and_then (λ form. option_and_then (λ cont. at_home c place h form cont env) (cont_at c h)) (form_at c.forms h.node)) o) (sound.frames h form cont there is).home
      ∙ ap (λ o. option_and_then (λ form. option_and_then (λ cont. at_home c place h form cont env) (cont_at c h)) o) there
      ∙ ap (λ o. option_and_then (λ cont. at_home c place h form cont env) o) is

  pub goes : (env : List Value) → goes_on c place (frame number env) v r ≡ continues_as c (at_home c place h form cont env) v r
  goes env =
      ap (λ b. (if b then Goes v else continues_as c (frame_meant c place (frame number env)) v) r) (not_before (first_frame c) cont.order)
      ∙ ap (λ o. continues_as c o v r) (meant env)

-- ---- parts

module _ (c : CodeTables) (sound : AreSound c) (h : Home) (cont : Cont) (is : cont_at c h ≡ Some cont) (names : Env) (done kept : List Value) (position : h.position ≡ length done)
    (at : IsContAt c.forms c.conts h.node (length done) cont names) (kept_is : lookup_all names (names_of cont.keeps) ≡ Some kept) (place : Loc) (v : Value) (r : Run) where
  abbrev as_part : Env → List Value → frames.Frame Point
  as_part env values = Part (under env h.node) values place

  before_last : nat_lt h.position (length at.form.parts) ≡ true
  before_last =
      ap (λ n. nat_lt n (length at.form.parts)) (position ∙ at.many)
      ∙ ap (λ ks. nat_lt (length at.earlier) (length ks)) at.parts
      ∙ ap (nat_lt (length at.earlier)) (length-append at.earlier (at.position ∷ at.later))
      ∙ is_within (length at.earlier) (length at.later)

  at_part : at_home c place h at.form cont (done ++ kept) ≡ Some (as_part (kept_names c cont kept) done)
  at_part =
      ap (λ b. if b then Some (as_part (kept_names c cont (drop h.position (done ++ kept))) (take h.position (done ++ kept))) else turn_meant c place at.form at.form.kind at.form.tails cont (done ++ kept)) before_last
      ∙ ap (λ n. Some (as_part (kept_names c cont (drop n (done ++ kept))) (take n (done ++ kept)))) position
      ∙ ap (λ values. Some (as_part (kept_names c cont values) (take (length done) (done ++ kept)))) (drop-append_seam done kept)
      ∙ ap (λ values. Some (as_part (kept_names c cont kept) values)) (take-append_seam done kept)

  pub resumes_law : goes_on c place (frame (first_frame c + cont.order) (done ++ kept)) v r ≡ continued (language c) (Part (under names h.node) done place) v r
  resumes_law =
      goes c sound h at.form cont at.there is place v r (done ++ kept)
      ∙ ap (λ o. continues_as c o v r) at_part
      ∙ ap (λ env. continued (language c) (as_part env done) v r) (sym (kept_again names (names_of cont.keeps) kept kept_is))
      ∙ sym (resumes c.forms c.conts h.node done place v r cont names at)

-- ---- turns

list_shown : (values : List Value) → ◌≡◌ {A = Option (List Value)} (list_in (value.List values)) (Some values)
list_shown values = simp (value.outs-List)

module _ (c : CodeTables) (sound : AreSound c) (h : Home) (form : Form) (cont : Cont) (x body : ℕ) (there : form_at c.forms h.node ≡ Some form) (for : form.kind ≡ kind.For x) (tails : form.tails ≡ body ∷ [])
    (position : h.position ≡ length form.parts) (is : cont_at c h ≡ Some cont) (names : Env) (made left kept : List Value) (kept_is : lookup_all names (names_of cont.keeps) ≡ Some kept) (place : Loc) (v : Value) (r : Run) where
  abbrev env : List Value
  env = value.List made ∷ value.List left ∷ kept

  abbrev as_turn : Env → frames.Frame Point
  as_turn inner = Turn form.at (under inner body) (map (λ w. under (bind x w inner) body) left) place made

  behind_last : nat_lt h.position (length form.parts) ≡ false
  behind_last = ap (λ n. nat_lt n (length form.parts)) position ∙ not_itself (length form.parts)

  at_turn : at_home c place h form cont env ≡ Some (as_turn (kept_names c cont kept))
  at_turn =
      ap (λ b. if b then Some (Part (under (kept_names c cont (drop h.position env)) h.node) (take h.position env) place) else turn_meant c place form form.kind form.tails cont env) behind_last
      ∙ ap (λ k. turn_meant c place form k form.tails cont env) for
      ∙ ap (λ ns. turn_meant c place form (kind.For x) ns cont env) tails
      ∙ ap (λ o. turn_of c place form x body (kept_names c cont kept) o (list_in (value.List left))) (list_shown made)
      ∙ ap (λ o. turn_of c place form x body (kept_names c cont kept) (Some made) o) (list_shown left)

  pub turns_law : goes_on c place (frame (first_frame c + cont.order) env) v r ≡ continued (language c) (as_turn (only (names_of cont.keeps) names)) v r
  turns_law =
      goes c sound h form cont there is place v r env
      ∙ ap (λ o. continues_as c o v r) at_turn
      ∙ ap (λ inner. continued (language c) (as_turn inner) v r) (sym (kept_again names (names_of cont.keeps) kept kept_is))

-- Numbering makes sound code.
use Rattle.std.proofs.Common.{◌≡◌, refl, sym, ap, subst, ◌∙◌, ◌⊎◌, inl, inr, ℕ, ◌+◌, ◌≤◌, true, List, [], ◌∷◌, ◌++◌, Option, Some, None, length, map, slice_get, arith}
use Rattle.std.specs.Option.{option_and_then, option_flatten, option_map}
use Rattle.std.specs.Prelude.{IsSome, if◌then◌else◌, ◌-◌}
use Rattle.std.proofs.lemmas.Option.{slice_get-map}
use Rattle.lk_ast.specs.declared.place.Loc.TheVariants.{Server}
use Rattle.lk_ground_types.specs.Shapes.{has_function}
use Rattle.lk_ir.specs.Continuing.{conts_at}
use Rattle.lk_ir.specs.Tables.{body_at, body_of, form_at, label_at}
use Rattle.lk_ir.specs.declared.ir.CpsProgram.{CpsProgram}
use Rattle.lk_ir.specs.declared.nodes.Block.{Block}
use Rattle.lk_ir.specs.declared.nodes.Body.{Body}
use Rattle.lk_ir.specs.declared.nodes.Cont.{Cont}
use Rattle.lk_ir.specs.declared.nodes.Conts.{Conts}
use Rattle.lk_ir.specs.declared.nodes.Form.{Form}
use Rattle.lk_ir.specs.declared.nodes.Forms.{Forms}
use Rattle.lk_ir.specs.declared.nodes.Kept.{Kept}
use Rattle.lk_ir.specs.declared.nodes.Kind.TheVariants as kind
use Rattle.lk_ir.specs.declared.nodes.LabelForm.{LabelForm}
use Rattle.lk_code.specs.Parts.{AreTypedForms, Info}
use Rattle.lk_code.specs.Sound.{AreSound, HasFrame, IsMain, IsNumbered, IsPrinter, IsReturnOf, info_of, kind_of, told_by}
use Rattle.lk_code.specs.Tables.{cont_at, first_frame, frame_info, fun_info, is_block, is_function, type_at}
use Rattle.lk_code.specs.Told.{env_of, info_in, told}
use Rattle.lk_code.specs.declared.infos.FrameInfo.{FrameInfo}
use Rattle.lk_code.specs.declared.infos.FunInfo.{FunInfo}
use Rattle.lk_code.specs.declared.infos.FunKind.TheVariants as fun
use Rattle.lk_code.specs.declared.tables.CodeTables.{CodeTables}
use Rattle.lk_code.specs.declared.tables.Home.{Home}
use Rattle.lk_defun.proofs.Framed.{frame_shown, return_shown, returns_at, returns_long}
use Rattle.lk_defun.proofs.InOrder.{home_counted, home_found}
use Rattle.lk_defun.proofs.Labels.{IsShown, at_server, both, form_keeps, informed, labelled, prints, with_body}
use Rattle.lk_defun.proofs.Lists.{flat, get_back, get_front, get_there, gone, not_before, nowhere, some_same}
use Rattle.lk_defun.specs.Numbers.{AreTables, cont_in, fun_at, frame_at, frame_in, funs_from, homes_from, kind_by, kind_in, place_in, return_at, returns_from}
use Rattle.lk_defun.specs.Whole.{IsFirst, IsWhole}

module _ (p : CpsProgram) (funs : List FunInfo) (frames : List FrameInfo) (homes : List Home) (whole : IsWhole p) (funs_are : map Some funs ≡ funs_from p 0 p.forms.labels) (homes_are : homes ≡ homes_from 0 p.conts)
    (frames_are : map Some frames ≡ returns_from p.forms 0 funs ++ map (frame_at p funs) homes) where
  abbrev c : CodeTables
  c = record { forms = p.forms; conts = p.conts; funs = funs; frames = frames; homes = homes }

  -- ---- labels

  told_at : (label : ℕ) (l : LabelForm) → label_at p.forms label ≡ Some l → info_in p label ≡ told p.forms (env_of p label) l.ty l.node l.body
  told_at label l there = ap (option_and_then (λ (l : LabelForm). told p.forms (env_of p label) l.ty l.node l.body)) there

  told_same : (label : ℕ) → told_by c label ≡ info_in p label
  told_same label = by_info (slice_get funs label) refl
    where
      absent : (l : Option LabelForm) → option_map Some (slice_get funs label) ≡ option_map (fun_at p label) l → slice_get funs label ≡ None → l ≡ None
      absent None is at = refl
      absent (Some l) is at = absurd (nowhere (sym (ap (option_map Some) at) ∙ is))

      by_info : (i : Option FunInfo) → slice_get funs label ≡ i → option_map info_of (slice_get funs label) ≡ info_in p label
      by_info None at = ap (option_map info_of) at ∙ sym (ap (option_and_then (λ (l : LabelForm). told p.forms (env_of p label) l.ty l.node l.body)) (absent (label_at p.forms label) (both p funs funs_are label) at))
      by_info (Some i) at = let has = labelled p funs funs_are label i at in ap (option_map info_of) at ∙ sym (told_at label has.l has.there ∙ has.shows.types)

  forms_are : AreTypedForms p.forms (told_by c)
  forms_are = subst (AreTypedForms p.forms) (sym (λ j label. told_same label j)) whole.typed.forms

  -- ---- what labels are

  printer_case : (i : FunInfo) (node : Option ℕ) (body : Option Body) (env : List ℕ) (ty : ℕ) → node ≡ None → body ≡ None → kind_in p.forms node body ≡ Some i.kind → i.place ≡ place_in i.kind body
      → told p.forms env ty node body ≡ Some (info_of i) → IsPrinter i
  printer_case i None None env ty no_node no_body kind place types =
      let prints = some_same (sym kind) in
      (prints, place ∙ ap (λ k. place_in k None) prints, some_same (sym types))
  printer_case i (Some n) body env ty no_node no_body kind place types = absurd (nowhere (sym no_node))
  printer_case i None (Some b) env ty no_node no_body kind place types = absurd (nowhere (sym no_body))

  is_printer : (i : FunInfo) × (fun_info c 0 ≡ Some i) × IsPrinter i
  is_printer =
      let found = informed p funs funs_are 0 whole.printer whole.printer_is in
      (found.0, found.1, printer_case found.0 whole.printer.node whole.printer.body (env_of p 0) whole.printer.ty whole.prints.node whole.prints.body found.2.kind found.2.place found.2.types)

  is_alone : (label : ℕ) (i : FunInfo) → slice_get funs label ≡ Some i → i.kind ≡ fun.Print → label ≡ 0
  is_alone label i at print =
      let has = labelled p funs funs_are label i at in
      let neither = prints p.forms i.kind has.l.node has.l.body has.shows.kind print in
      whole.alone label has.l has.there (record { node = neither.0; body = neither.1 })

  -- an instance keeps nothing
  top_keeps : (label : ℕ) (l : LabelForm) (b : Body) (of : Info) → label_at p.forms label ≡ Some l → l.node ≡ None → l.body ≡ Some b → info_in p label ≡ Some of → of.env ≡ []
  top_keeps label l b of there node body is =
      let at : body_at p.forms label ≡ Some b = ap body_of there ∙ body in
      let typed = whole.typed.forms.bodies label b at in
      let same : typed.of ≡ of = some_same (sym typed.is ∙ is) in
      let none : length of.env ≡ 0 = sym (ap (λ (o : Info). length o.env) same) ∙ sym typed.names_long ∙ ap length (whole.typed.forms.tops label l b there node body) in
      nothing of.env none
    where
      nothing : {A : Type 0} (xs : List A) → length xs ≡ 0 → xs ≡ []
      nothing [] is = refl
      nothing (x ∷ xs) is = absurd (omega arith)

  keeps_case : (label : ℕ) (l : LabelForm) (i : FunInfo) (node : Option ℕ) (body : Option Body) → label_at p.forms label ≡ Some l → l.node ≡ node → l.body ≡ body → info_in p label ≡ Some (info_of i)
      → kind_in p.forms node body ≡ Some i.kind → told p.forms (env_of p label) l.ty node body ≡ Some (info_of i) → (i.kind ≡ fun.Lambda) ⊎ (i.env ≡ [])
  keeps_case label l i None None there node body is kind types = inr (ap (λ (o : Info). o.env) (some_same (sym types)))
  keeps_case label l i None (Some b) there node body is kind types = inr (top_keeps label l b (info_of i) there node body is)
  keeps_case label l i (Some n) (Some b) there node body is kind types = inl (some_same (sym kind))
  keeps_case label l i (Some n) None there node body is kind types = inr (form_keeps p.forms (type_at p.forms l.ty) (form_at p.forms n) (info_of i) types)

  keep_so : (label : ℕ) (i : FunInfo) → slice_get funs label ≡ Some i → (i.kind ≡ fun.Lambda) ⊎ (i.env ≡ [])
  keep_so label i at =
      let has = labelled p funs funs_are label i at in
      keeps_case label has.l i has.l.node has.l.body has.there refl refl (told_at label has.l has.there ∙ has.shows.types) has.shows.kind has.shows.types

  main_case : (i : FunInfo) (l : LabelForm) → label_at p.forms 1 ≡ Some l → slice_get funs 1 ≡ Some i → IsShown p 1 l i → IsFirst p l → IsMain i
  main_case i l there at shows first =
      let same : info_of i ≡ first.of = some_same (sym (told_at 1 l there ∙ shows.types) ∙ first.of_is) in
      let kind : i.kind ≡ fun.Top = some_same (sym (sym (ap (λ n. kind_in p.forms n l.body) first.node ∙ ap (kind_in p.forms None) first.body_is) ∙ shows.kind)) in
      record {
        kind = kind;
        place = shows.place ∙ ap (place_in i.kind) first.body_is ∙ first.place;
        params = ap (λ (o : Info). o.params) same ∙ first.params;
        env = ap (λ (o : Info). o.env) same ∙ top_keeps 1 l first.body first.of there first.node first.body_is first.of_is;
        plain = ap (λ (o : Info). has_function o.result) same ∙ first.plain;
      }

  is_main : (i : FunInfo) × (fun_info c 1 ≡ Some i) × IsMain i
  is_main = let found = informed p funs funs_are 1 whole.main whole.main_is in (found.0, found.1, main_case found.0 whole.main whole.main_is found.1 found.2 whole.first)

  serve_so : (label : ℕ) (i : FunInfo) → slice_get funs label ≡ Some i → is_block i.kind ≡ true → i.place ≡ Server
  serve_so label i at reaches =
      let has = labelled p funs funs_are label i at in
      has.shows.place ∙ at_server p.forms i.kind has.l.node has.l.body has.shows.kind reaches

  -- ---- bodies and blocks

  body_case : (i : FunInfo) (node : Option ℕ) (b : Body) → kind_in p.forms node (Some b) ≡ Some i.kind → is_function i.kind ≡ true
  body_case i None b kind = ap is_function (some_same (sym kind))
  body_case i (Some n) b kind = ap is_function (some_same (sym kind))

  bodies_are : (label : ℕ) (b : Body) → body_at p.forms label ≡ Some b → (i : FunInfo) × (fun_info c label ≡ Some i) × (is_function i.kind ≡ true) × (b.place ≡ i.place)
  bodies_are label b at = by_form (label_at p.forms label) refl at
    where
      by_form : (l : Option LabelForm) → label_at p.forms label ≡ l → body_of l ≡ Some b → (i : FunInfo) × (fun_info c label ≡ Some i) × (is_function i.kind ≡ true) × (b.place ≡ i.place)
      by_form None there body = absurd (nowhere body)
      by_form (Some l) there body =
          let found = informed p funs funs_are label l there in
          let kind = sym (ap (kind_in p.forms l.node) body) ∙ found.2.kind in
          (found.0, found.1, body_case found.0 l.node b kind, sym (found.2.place ∙ ap (place_in found.0.kind) body))

  block_case : (i : FunInfo) (n : ℕ) (form : Form) (b : Block) (label : ℕ) (kept : List Kept) (own : Option ℕ) (body : Option Body) → form_at p.forms n ≡ Some form → form.kind ≡ kind.Reach b label kept → own ≡ Some n → body ≡ None
      → kind_in p.forms own body ≡ Some i.kind → i.kind ≡ kind_of b
  block_case i n form b label kept own body there reaches own_is body_is kind =
      some_same (sym (sym (ap (λ m. kind_in p.forms m body) own_is ∙ ap (kind_in p.forms (Some n)) body_is ∙ ap (option_and_then (λ (form : Form). kind_by form.kind)) there ∙ ap kind_by reaches) ∙ kind))

  blocks_are : (n : ℕ) (form : Form) (b : Block) (label : ℕ) (kept : List Kept) → form_at p.forms n ≡ Some form → form.kind ≡ kind.Reach b label kept → (i : FunInfo) × (fun_info c label ≡ Some i) × (i.kind ≡ kind_of b)
  blocks_are n form b label kept there reaches = let own = whole.typed.forms.blocks n form b label kept there reaches in by_form (label_at p.forms label) refl own.0 own.1
    where
      by_form : (l : Option LabelForm) → label_at p.forms label ≡ l → option_and_then (λ (l : LabelForm). l.node) l ≡ Some n → body_of l ≡ None → (i : FunInfo) × (fun_info c label ≡ Some i) × (i.kind ≡ kind_of b)
      by_form None at node body = absurd (nowhere node)
      by_form (Some l) at node body = let found = informed p funs funs_are label l at in (found.0, found.1, block_case found.0 n form b label kept l.node l.body there reaches node body found.2.kind)

  -- ---- frames

  returns_are : (label : ℕ) (i : FunInfo) → fun_info c label ≡ Some i → (r : FrameInfo) × (frame_info c label ≡ Some r) × IsReturnOf i r
  returns_are label i at =
      let asked = get_front (returns_from p.forms 0 funs) (map (frame_at p funs) homes) label _ (returns_at p.forms 0 funs label i at) in
      let found = get_there frames _ frames_are label (return_at p.forms (0 + label) i) asked in
      (found.0, found.1, return_shown p.forms (0 + label) i found.0 found.2)

  positions_are : (h : Home) (form : Form) (cont : Cont) → form_at p.forms h.node ≡ Some form → cont_at c h ≡ Some cont → HasFrame c h form cont
  positions_are h form cont there has =
      let at : slice_get homes cont.order ≡ Some h = ap (λ hs. slice_get hs cont.order) homes_are ∙ home_found p.conts whole.order h cont (flat (slice_get (conts_at p.conts h.node) h.position) cont has) in
      let long : length funs ≡ length (returns_from p.forms 0 funs) = sym (returns_long p.forms 0 funs) in
      let asked : slice_get (returns_from p.forms 0 funs ++ map (frame_at p funs) homes) (length funs + cont.order) ≡ Some (frame_at p funs h)
      = ap (λ m. slice_get (returns_from p.forms 0 funs ++ map (frame_at p funs) homes) (m + cont.order)) long
      ∙ get_back (returns_from p.forms 0 funs) (map (frame_at p funs) homes) cont.order
      ∙ slice_get-map (frame_at p funs) homes cont.order
      ∙ ap (option_map (frame_at p funs)) at in
      let found = get_there frames _ frames_are (length funs + cont.order) (frame_at p funs h) asked in
      let shows = frame_shown p funs h form cont found.0 there has found.2 in
      record {
        home = ap (λ b. if b then None else slice_get homes ((length funs + cont.order) - length funs)) (not_before (length funs) cont.order) ∙ ap (slice_get homes) (gone (length funs) cont.order) ∙ at;
        info = found.0;
        is = found.1;
        within = shows.within;
        within_is = shows.within_is;
        place = shows.place;
        types = shows.types;
      }

  -- a frame behind the returns is that of a home
  homed : (number : ℕ) (i : FrameInfo) → frame_info c number ≡ Some i → first_frame c ≤ number → IsNumbered c number
  homed number i at above =
      let long = returns_long p.forms 0 funs in
      let behind : number ≡ length (returns_from p.forms 0 funs) + (number - length funs) = omega (arith, long, above) in
      let asked : slice_get (map (frame_at p funs) homes) (number - length funs) ≡ Some (Some i)
      = sym (get_back (returns_from p.forms 0 funs) (map (frame_at p funs) homes) (number - length funs))
      ∙ sym (ap (slice_get (returns_from p.forms 0 funs ++ map (frame_at p funs) homes)) behind)
      ∙ sym (ap (λ os. slice_get os number) frames_are)
      ∙ slice_get-map Some frames number
      ∙ ap (option_map Some) at in
      by_home (slice_get homes (number - length funs)) refl (sym (slice_get-map (frame_at p funs) homes (number - length funs)) ∙ asked)
    where
      by_form : (h : Home) → slice_get homes (number - length funs) ≡ Some h → (form : Option Form) → form_at p.forms h.node ≡ form
          → option_and_then (λ form. option_and_then (frame_in p.forms funs form h.position) (cont_in p.conts h)) form ≡ Some i → IsNumbered c number
      by_form h there None form_is is = absurd (nowhere is)
      by_form h there (Some form) form_is is =
          let one = home_counted p.conts whole.order (number - length funs) h (sym (ap (λ hs. slice_get hs (number - length funs)) homes_are) ∙ there) in
          let order = one.2 in
          let numbered : number ≡ length funs + one.0.order = omega (arith, order, above) in
          record { home = h; form = form; cont = one.0; there = form_is; is = ap option_flatten one.1; numbered = numbered }

      by_home : (h : Option Home) → slice_get homes (number - length funs) ≡ h → option_map (frame_at p funs) h ≡ Some (Some i) → IsNumbered c number
      by_home None there is = absurd (nowhere is)
      by_home (Some h) there is = by_form h there (form_at p.forms h.node) refl (some_same is)

  pub are_sound : AreSound c
  are_sound = record {
    printer = is_printer;
    alone = is_alone;
    main = is_main;
    keeps = keep_so;
    servers = serve_so;
    bodies = bodies_are;
    blocks = blocks_are;
    forms = forms_are;
    named = whole.typed.named;
    named_as = whole.typed.named_as;
    returns = returns_are;
    frames = positions_are;
    homes = homed;
  }

-- tables of these functions, homes and frames
pub are_tables : (p : CpsProgram) (c : CodeTables) (funs : List FunInfo) (homes : List Home) (frames : List FrameInfo) → c ≡ record { forms = p.forms; conts = p.conts; funs = funs; frames = frames; homes = homes }
    → map Some funs ≡ funs_from p 0 p.forms.labels → homes ≡ homes_from 0 p.conts → map Some frames ≡ returns_from p.forms 0 funs ++ map (frame_at p funs) homes → AreTables p c
are_tables p c funs homes frames is funs_are homes_are frames_are = subst (AreTables p) (sym is) (record { forms = refl; conts = refl; funs = funs_are; homes = homes_are; frames = frames_are })

-- the tables that numbers give to a program are those of sound code
pub numbered_sound : (p : CpsProgram) (c : CodeTables) → IsWhole p → AreTables p c → AreSound c
numbered_sound p c whole are =
    subst (λ (f : Forms). AreSound (record { forms = f; conts = c.conts; funs = c.funs; frames = c.frames; homes = c.homes })) (sym are.forms)
    (subst (λ (cs : List Conts). AreSound (record { forms = p.forms; conts = cs; funs = c.funs; frames = c.frames; homes = c.homes })) (sym are.conts)
    (are_sound p c.funs c.frames c.homes whole are.funs are.homes are.frames))

-- in these tables each instance and each lambda has a body
pub numbered_bodies : (p : CpsProgram) (c : CodeTables) → AreTables p c → (label : ℕ) (i : FunInfo) → fun_info c label ≡ Some i → is_function i.kind ≡ true → IsSome (body_at c.forms label)
numbered_bodies p c are label i at function = subst (λ (f : Forms). IsSome (body_at f label)) (sym are.forms) (with_body p c.funs are.funs label i at function)

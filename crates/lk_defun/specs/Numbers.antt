-- The numbers of functions and frames (defunctionalisation: J. C. Reynolds, Definitional Interpreters for Higher-Order Programming
-- Languages, 1972, section 5): functions in the order of their labels; frames first for the return of each label, then for each
-- continuation in the order of nodes and positions.
use Rattle.std.specs.Option.{option_and_then, option_flatten, option_map}
use Rattle.std.specs.Prelude.{◌≡◌, ℕ, ◌+◌, List, [], ◌∷◌, ◌++◌, Option, Some, None, codes, map, slice_get}
use Rattle.lk_ast.specs.declared.place.Loc.{Loc}
use Rattle.lk_ast.specs.declared.place.Loc.TheVariants.{Client, Server}
use Rattle.lk_ir.specs.Continuing.{conts_at}
use Rattle.lk_ir.specs.Tables.{form_at, label_at}
use Rattle.lk_ir.specs.declared.ir.CpsProgram.{CpsProgram}
use Rattle.lk_ir.specs.declared.nodes.Body.{Body}
use Rattle.lk_ir.specs.declared.nodes.Cont.{Cont}
use Rattle.lk_ir.specs.declared.nodes.Conts.{Conts}
use Rattle.lk_ir.specs.declared.nodes.Form.{Form}
use Rattle.lk_ir.specs.declared.nodes.Forms.{Forms}
use Rattle.lk_ir.specs.declared.nodes.Kind.{Kind}
use Rattle.lk_ir.specs.declared.nodes.Kind.TheVariants as kind
use Rattle.lk_ir.specs.declared.nodes.LabelForm.{LabelForm}
use Rattle.lk_types.specs.declared.ground.Ground.{Ground}
use Rattle.lk_code.specs.Parts.{Info}
use Rattle.lk_code.specs.Sound.{held_types, hole_type, kind_of}
use Rattle.lk_code.specs.Tables.{type_at}
use Rattle.lk_code.specs.Told.{env_of, kept_types, told}
use Rattle.lk_code.specs.declared.infos.FrameInfo.{FrameInfo}
use Rattle.lk_code.specs.declared.infos.FunInfo.{FunInfo}
use Rattle.lk_code.specs.declared.infos.FunKind.{FunKind}
use Rattle.lk_code.specs.declared.infos.FunKind.TheVariants as fun
use Rattle.lk_code.specs.declared.tables.CodeTables.{CodeTables}
use Rattle.lk_code.specs.declared.tables.Home.{Home}
use Rattle.lk_defun.specs.Words.{Word, node_word, suffix}
use Rattle.lk_defun.specs.declared.positions.PositionTypes.{PositionTypes}

-- ---- functions

abbrev pub kind_by : Kind → Option FunKind
kind_by (kind.Reach b label kept) = Some (kind_of b)
kind_by other = None

-- what has a label, by its node and its body: only an instance has no node but a body, and only `print` has neither
abbrev pub kind_in : Forms → Option ℕ → Option Body → Option FunKind
kind_in f None None = Some fun.Print
kind_in f None (Some b) = Some fun.Top
kind_in f (Some n) (Some b) = Some fun.Lambda
kind_in f (Some n) None = option_and_then (λ (form : Form). kind_by form.kind) (form_at f n)

-- what reads or changes tables runs at the server
abbrev pub place_in : FunKind → Option Body → Loc
place_in k (Some b) = b.place
place_in fun.Print None = Client
place_in other None = Server

-- the name of the instance that has the label, or inside which it stands
abbrev pub owner_in : Forms → LabelForm → FunKind → Option Word
owner_in f l fun.Print = Some (codes "print")
owner_in f l other = slice_get f.titles l.owner

abbrev pub name_in : Forms → LabelForm → FunKind → Option Word
name_in f l k = option_map (λ owner. owner ++ suffix k) (owner_in f l k)

abbrev pub fun_by : Forms → LabelForm → FunKind → Option Info → Option FunInfo
fun_by f l k None = None
fun_by f l k (Some of) = option_map (λ name. record { name = name; kind = k; place = place_in k l.body; params = of.params; effects = of.effects; result = of.result; env = of.env }) (name_in f l k)

-- what is told of what has this label
abbrev pub fun_at : CpsProgram → ℕ → LabelForm → Option FunInfo
fun_at p label l = option_and_then (λ k. fun_by p.forms l k (told p.forms (env_of p label) l.ty l.node l.body)) (kind_in p.forms l.node l.body)

-- from this label on
abbrev pub funs_from : CpsProgram → ℕ → List LabelForm → List (Option FunInfo)
funs_from p label [] = []
funs_from p label (l ∷ ls) = fun_at p label l ∷ funs_from p (label + 1) ls

-- ---- frames

-- the return of a label
abbrev pub return_by : FunInfo → Word → FrameInfo
return_by i owner = record { owner = owner; place = i.place; node = codes "return"; position = 0; env = []; hole = i.result; result = i.result }

abbrev pub return_at : Forms → ℕ → FunInfo → Option FrameInfo
return_at f label i = option_and_then (λ (l : LabelForm). option_map (return_by i) (owner_in f l i.kind)) (label_at f label)

abbrev pub returns_from : Forms → ℕ → List FunInfo → List (Option FrameInfo)
returns_from f label [] = []
returns_from f label (i ∷ is) = return_at f label i ∷ returns_from f (label + 1) is

-- the types of the values that are kept, of the value that is waited for, and of what it comes to
abbrev pub all_types : Option (List Ground) → Option (List Ground) → Option Ground → Option Ground → Option PositionTypes
all_types held kept hole result = option_and_then (λ held. option_and_then (λ kept. option_and_then (λ hole. option_map (λ result. record { env = held ++ kept; hole = hole; result = result }) result) hole) kept) held

abbrev pub position_types : Forms → Form → ℕ → Cont → Option PositionTypes
position_types f form position cont = all_types (held_types f form position) (kept_types f cont.keeps) (hole_type f form position) (type_at f form.ty)

abbrev pub frame_by : FunInfo → Word → Kind → ℕ → PositionTypes → FrameInfo
frame_by within owner k position types = record { owner = owner; place = within.place; node = node_word k; position = position + 1; env = types.env; hole = types.hole; result = types.result }

-- the name of the instance in which what has this label stands
abbrev pub title_of : Forms → ℕ → Option Word
title_of f label = option_and_then (λ (l : LabelForm). slice_get f.titles l.owner) (label_at f label)

-- it runs where the innermost function around runs; positions count from 1
abbrev pub frame_in : Forms → List FunInfo → Form → ℕ → Cont → Option FrameInfo
frame_in f funs form position cont = option_and_then (λ within. option_and_then (λ owner. option_map (frame_by within owner form.kind position) (position_types f form position cont)) (title_of f form.within)) (slice_get funs form.within)

abbrev pub cont_in : List Conts → Home → Option Cont
cont_in all h = option_flatten (slice_get (conts_at all h.node) h.position)

-- the frame of a position
abbrev pub frame_at : CpsProgram → List FunInfo → Home → Option FrameInfo
frame_at p funs h = option_and_then (λ form. option_and_then (frame_in p.forms funs form h.position) (cont_in p.conts h)) (form_at p.forms h.node)

-- the position, if it has a continuation; and those of a node from this one on
abbrev pub home_at : ℕ → ℕ → Option Cont → List Home
home_at n position None = []
home_at n position (Some c) = record { node = n; position = position } ∷ []

abbrev pub homes_at : ℕ → ℕ → List (Option Cont) → List Home
homes_at n position [] = []
homes_at n position (c ∷ cs) = home_at n position c ++ homes_at n (position + 1) cs

-- those of all nodes from this one on
abbrev pub homes_from : ℕ → List Conts → List Home
homes_from n [] = []
homes_from n (c ∷ cs) = homes_at n 0 c.of ++ homes_from (n + 1) cs

-- ---- tables

-- the tables of code that numbers give a program with continuations
pub record AreTables (p : CpsProgram) (c : CodeTables) : Type 0 where
  pub forms : c.forms ≡ p.forms
  pub conts : c.conts ≡ p.conts
  pub funs : map Some c.funs ≡ funs_from p 0 p.forms.labels
  pub homes : c.homes ≡ homes_from 0 p.conts
  pub frames : map Some c.frames ≡ returns_from p.forms 0 c.funs ++ map (frame_at p c.funs) c.homes

-- The steps of a walk through the positions of a node, from the last to the first.
use Rattle.std.specs.Prelude.{◌≡◌, ℕ, List, [], ◌∷◌, ◌++◌, Option, Some, reverse}
use Rattle.lk_ir.specs.Tables.{form_at}
use Rattle.lk_ir.specs.declared.nodes.Cont.{Cont}
use Rattle.lk_ir.specs.declared.nodes.Form.{Form}
use Rattle.lk_ir.specs.declared.nodes.Forms.{Forms}
use Rattle.lk_cps.specs.declared.positions.Looked.{Looked}
use Rattle.lk_cps.specs.Live.{AreContsAt, IsContOf, Joins, Live, LiveAt, LiveBehind}

-- these positions have been looked at
pub record HasLooked (f : Forms) (form : Form) (left : List ℕ) (looked : Looked) : Type 0 where
  pub conts : AreContsAt f form left (reverse looked.of)
  pub live : LiveBehind f form left looked.live

-- one position more
pub record LooksAt (f : Forms) (n : ℕ) (before after : Looked) : Type 0 where
  pub cont : Option Cont
  pub of : after.of ≡ before.of ++ cont ∷ []
  pub is : IsContOf f n before.live cont
  pub own : Live
  pub own_is : LiveAt f n own
  pub both : Joins own before.live after.live

-- a node with its continuations, the last one first
pub record AreContsOf (f : Forms) (n : ℕ) (of : List (Option Cont)) : Type 0 where
  pub form : Form
  pub there : form_at f n ≡ Some form
  pub conts : AreContsAt f form form.parts (reverse of)

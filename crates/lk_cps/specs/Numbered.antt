-- Continuations that get their places in the order of all, and what is known of all of them.
use Rattle.std.specs.Prelude.{◌≡◌, ℕ, ◌+◌, List, Option, length, map}
use Rattle.lk_ir.specs.Uses.{AreNamed}
use Rattle.lk_ir.specs.declared.nodes.Cont.{Cont}
use Rattle.lk_ir.specs.declared.nodes.Conts.{Conts}
use Rattle.lk_ir.specs.declared.nodes.Forms.{Forms}
use Rattle.lk_cps.specs.Conts.{AreTyped}
use Rattle.lk_ir.specs.Orders.{CountFrom, all_orders, orders}
use Rattle.lk_cps.specs.Live.{bare}

-- They keep what they kept, and have the numbers from this one on, and as many are gone.
pub record IsNumbered (from : ℕ) (old : List (Option Cont)) (to : ℕ) (new : List (Option Cont)) : Type 0 where
  pub same : bare new ≡ bare old
  pub counted : CountFrom from (orders new)
  pub gone : to ≡ from + length (orders new)

-- so of all nodes
pub record AreNumbered (old : List (List (Option Cont))) (new : List Conts) : Type 0 where
  pub same : map (λ (c : Conts). bare c.of) new ≡ map bare old
  pub counted : CountFrom 0 (all_orders new)

-- all that is known of the continuations of a table
pub record AreWhole (f : Forms) (all : List Conts) : Type 0 where
  pub named : AreNamed f all
  pub order : CountFrom 0 (all_orders all)
  pub types : AreTyped f all

-- Which nodes have a site: those that read tables, and those that change rows that are there.
use Rattle.std.specs.Prelude.{Bool, true, false}
use Rattle.lk_ast.specs.Layers.{Layer}
use Rattle.lk_ast.specs.declared.expression.Node.TheOpen.{Node-F}

-- an update or a deletion
abbrev pub is_change : Layer → Bool
is_change (Node-F.Update change) = true
is_change (Node-F.Delete change) = true
is_change other = false

-- these, a query or the reading of a table
abbrev pub is_site : Layer → Bool
is_site (Node-F.Query keys body) = true
is_site (Node-F.Table name) = true
is_site other = is_change other

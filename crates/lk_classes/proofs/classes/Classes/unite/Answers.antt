use Rattle.std.proofs.Common.{◌+◌, ◌<◌, ◌≤◌, ◌^◌, length, map, arith}
use Rattle.lk_classes.specs.Classes.{relabeled}
use Rattle.lk_classes.specs.Forest.{IsForest}
use Rattle.lk_classes.proofs.Trees.{are_classes, is_forest, names_of-forest}
use Rattle.lk_classes.proofs.Unions.{joined, sizes_fit, two_roots, united}
use Rattle.lk_classes.proofs.classes.Classes.unite.Goals as goal

pub overflow_add-below : goal.overflow_add-below
overflow_add-below c =
    let fit : c.by_size.result.0.size + c.by_size.result.1.size ≤ length c.self.inside.members.items =
    sizes_fit (two_roots c.self.inside.members.items _ _ c.args.self.now c.root_of-first.result c.root_of-second.result c.by_size.result c.args.from c.args.to
    c.self.invariant c.self.view_is c.as_slice.ensures.value c.as_slice-2.ensures.value c.root_of-first.ensures c.root_of-second.ensures c.by_size.ensures.both
    c.requires.apart c.requires.to_below c.requires.from_names c.requires.to_names) in
    let few : length c.self.inside.members.items < 2 ^ 64 = c.self.invariant.few in
    omega arith

forest : (c : goal.After-self-2-1) → IsForest (joined c.self.inside.members.items c.by_size.result.0 c.by_size.result.1 c.args.to) (map (relabeled c.args.from c.args.to) c.args.self.now)
forest c = united (two_roots c.self.inside.members.items _ _ c.args.self.now c.root_of-first.result c.root_of-second.result c.by_size.result c.args.from c.args.to
    c.self.invariant c.self.view_is c.as_slice.ensures.value c.as_slice-2.ensures.value c.root_of-first.ensures c.root_of-second.ensures c.by_size.ensures.both
    c.requires.apart c.requires.to_below c.requires.from_names c.requires.to_names)

pub invariant_of-self : goal.invariant_of-self
invariant_of-self c = is_forest (forest c)

pub returns-clause-names : goal.returns-clause-names
returns-clause-names c = names_of-forest (forest c)

pub returns-clause-classes : goal.returns-clause-classes
returns-clause-classes c = are_classes (forest c)

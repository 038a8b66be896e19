-- What is told of labels, as the code keeps it.
use Rattle.lk_code.specs.Parts.{Info}
use Rattle.lk_defun.specs.declared.told.Signature.{Signature}

abbrev pub told_by : Signature → Info
told_by s = record { params = s.params; effects = s.effects; result = s.result; env = s.env }

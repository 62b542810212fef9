-- The letters of a form, from each of its parts outward. Assumes nothing.
use Rattle.std.specs.Prelude.{List, ◌++◌}
use Rattle.normal_form.specs.declared.letter.Operator.{Operator}
use Rattle.normal_form.specs.declared.letter.Operator.TheVariants.{Truncation, MinimalRights}
use Rattle.normal_form.specs.Forms.{Parts, where_so, is_inner, is_outer, seniority_letter}

-- outer m
abbrev pub from_outer_rights : Parts → List Operator
from_outer_rights p = where_so (is_outer p.rights) MinimalRights

-- outer t, outer m
abbrev pub from_outer_truncation : Parts → List Operator
from_outer_truncation p = where_so (is_outer p.truncation) Truncation ++ from_outer_rights p

-- the seniority letter, and what lies outside it
abbrev pub from_seniority : Parts → List Operator
from_seniority p = seniority_letter p.order ++ from_outer_truncation p

-- inner m, and what lies outside it
abbrev pub from_inner_rights : Parts → List Operator
from_inner_rights p = where_so (is_inner p.rights) MinimalRights ++ from_seniority p

-- inner t, and what lies outside it
abbrev pub from_inner_truncation : Parts → List Operator
from_inner_truncation p = where_so (is_inner p.truncation) Truncation ++ from_inner_rights p

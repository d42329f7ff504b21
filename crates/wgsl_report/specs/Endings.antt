-- How a program ends that prints reports.
use Rattle.std.specs.Prelude.{ℕ, nat_lt, if◌then◌else◌}
use Rattle.wgsl_report.specs.declared.end.End.{End}
use Rattle.wgsl_report.specs.declared.end.End.TheVariants as ends

abbrev pub end_status : End → ℕ
end_status ends.Well = 0
end_status ends.Faults = 1
end_status ends.Usage = 2
end_status ends.Io = 3

-- that of the greater status
abbrev pub worse_of : End → End → End
worse_of a b = if nat_lt (end_status a) (end_status b) then b else a

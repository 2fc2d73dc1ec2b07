-- The counts of the desk over the system's files.
use Rattle.std.specs.Prelude.{ℕ, None}
use Rattle.cell_io.specs.Desk.{View}
use Rattle.cell_io.specs.declared.host.HostDesk.{HostDesk}

abbrev pub read_faults_of : {R F D : Type 0} → HostDesk R F D → ℕ
read_faults_of desk = desk.read_faults

abbrev pub write_faults_of : {R F D : Type 0} → HostDesk R F D → ℕ
write_faults_of desk = desk.write_faults

abbrev pub shorts_of : {R F D : Type 0} → HostDesk R F D → ℕ
shorts_of desk = desk.shorts

-- what contracts see of it: its counts alone
abbrev pub host_view : {R F D : Type 0} → HostDesk R F D → View
host_view desk = record {
  given = None;
  made = None;
  created = None;
  said = None;
  read_faults = read_faults_of desk;
  write_faults = write_faults_of desk;
  shorts = shorts_of desk;
}

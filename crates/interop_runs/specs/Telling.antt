-- What is written of a run.
use Rattle.std.specs.Prelude.{◌≡◌, ℕ, ◌-◌, Bool, true, false, if◌then◌else◌, nat_eq, List, [], ◌∷◌, ◌++◌, length, take, drop, codes}
use lib.Pointwise.{pointwise}
use Rattle.std.specs.List.{flat_map}
use Rattle.std.specs.Fmt.{decimal}
use Rattle.rp_base.specs.Mem.{sink_bytes}
use Rattle.rp_devices.specs.declared.mem_disk.MemDisk.{MemDisk}
use Rattle.rp_devices.specs.declared.change.Left.TheVariants.{Nothing, All, Each}
use Rattle.rp_devices.specs.Disks.{disk_bytes, held}
use Rattle.rp_devices.specs.Held.{left_of}
use Rattle.rp_devices.specs.Links.{link_sent}
use Rattle.text_defs.specs.Words.{bytes_word}
use Rattle.interop_runs.specs.declared.outside.Outside.{Outside}
use Rattle.interop_runs.specs.Devices.{disk_within, link_within}

-- `PORT:HEX`
abbrev pub datagram_word : ℕ × List ℕ → List ℕ
datagram_word d = decimal d.0 ++ (codes ":" ++ bytes_word d.1)

abbrev pub further_word : ℕ × List ℕ → List ℕ
further_word d = codes "," ++ datagram_word d

-- `PORT:HEX,PORT:HEX ..`, or a dash where nothing was sent
abbrev pub sent_word : List (ℕ × List ℕ) → List ℕ
sent_word [] = codes "-"
sent_word (d ∷ ds) = datagram_word d ++ flat_map further_word ds

-- What was written before the run was cut off: the node goes on from the call that fails there as from any call of the disk that fails, and
-- so writes a last line after it.
abbrev pub before_stop : List ℕ → List ℕ
before_stop written =
    let front = length written - 12 in
    if pointwise nat_eq (drop front written) (codes "stop 5 disk\n") then take front written else written

-- what a crash leaves of the disk, where of what was not synced nothing is left, all of it, or each byte as a5
abbrev pub images_text : MemDisk → List ℕ
images_text disk =
    bytes_word (left_of Nothing (held disk)) ++ (codes " " ++ (bytes_word (left_of All (held disk)) ++ (codes " "
    ++ bytes_word (left_of (Each 165) (held disk)))))

-- `STATUS OUT JOURNAL SENT`
abbrev pub ended_text : ℕ → ℕ → Outside → List ℕ
ended_text waiting status o =
    decimal status ++ (codes " " ++ (bytes_word (sink_bytes o.output) ++ (codes " " ++ (bytes_word (disk_bytes (disk_within o)) ++ (codes " "
    ++ sent_word (drop waiting (link_sent (link_within o))))))))

-- `stopped OUT - SENT NONE ALL A5`
abbrev pub cut_text : ℕ → Outside → List ℕ
cut_text waiting o =
    codes "stopped " ++ (bytes_word (before_stop (sink_bytes o.output)) ++ (codes " - " ++ (sent_word (drop waiting (link_sent (link_within o)))
    ++ (codes " " ++ images_text (disk_within o)))))

-- of a run that ended with this status, or was cut off; `waiting` datagrams had waited, which count as sent
abbrev pub end_text : ℕ → ℕ → Outside → List ℕ
end_text waiting status o = if o.disk.is_cut then cut_text waiting o else ended_text waiting status o

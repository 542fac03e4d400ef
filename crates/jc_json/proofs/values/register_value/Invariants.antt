use Rattle.std.proofs.Common.{◌≡◌, map, take}
use Rattle.serde_json.specs.Data.{no_members}
use Rattle.serde_json.specs.View.{members_view}
use Rattle.jc_json.specs.Json.{put_all, value_member}
use Rattle.jc_json.proofs.values.register_value.Given as goal

abbrev pub invariant-loop-id : goal.invariant-loop-id
invariant-loop-id l = members_view l.members.entries ≡ put_all (map (value_member l.names) (take l.id-index l.pairs)) no_members

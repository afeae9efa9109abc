-- What stands between the values of a JSON output, which has one proxy, whose number is 2, and one process.
use Rattle.std.specs.Prelude.{ℕ, List, [], ◌∷◌, codes}
use Rattle.tcp_stats.specs.declared.json_part.JsonPart.{JsonPart}
use Rattle.tcp_stats.specs.declared.json_part.JsonPart.TheVariants as parts

unfoldable pub part_text : JsonPart → List ℕ
part_text parts.Kind = codes "{\"objType\":\""
part_text parts.Proxy = codes "\",\"proxyId\":2,\"id\":"
part_text parts.Place = codes "\"field\":{\"pos\":"
part_text parts.Name = codes ",\"name\":\""
part_text parts.Tags = codes "\"},\"processNum\":1,\"tags\":"
part_text parts.Type = codes ",\"value\":{\"type\":\""
part_text parts.Value = codes "\",\"value\":"

-- The names of variables in the text of a message (own rule).
use Rattle.std.specs.Prelude.{ℕ, List, codes}
use Rattle.ertms_codec.specs.declared.name.Name.{Name}
use Rattle.ertms_codec.specs.declared.name.Name.TheVariants.{Ack, Acked, Answer, Dir, Distance, Em, Engine, Front, Length, Lrbg, Over, Previous, Ref, Scale, Side, Speed, Stamp, Start, Stop, Tsr, Under}

-- a name as it stands in a text
abbrev pub name_text : Name → List ℕ
name_text Ack = codes "ack"
name_text Acked = codes "acked"
name_text Answer = codes "answer"
name_text Dir = codes "dir"
name_text Distance = codes "distance"
name_text Em = codes "em"
name_text Engine = codes "engine"
name_text Front = codes "front"
name_text Length = codes "length"
name_text Lrbg = codes "lrbg"
name_text Over = codes "over"
name_text Previous = codes "previous"
name_text Ref = codes "ref"
name_text Scale = codes "scale"
name_text Side = codes "side"
name_text Speed = codes "speed"
name_text Stamp = codes "stamp"
name_text Start = codes "start"
name_text Stop = codes "stop"
name_text Tsr = codes "tsr"
name_text Under = codes "under"

-- A client's conversation on the stats socket (HAProxy Management Guide 2.6, 9.3).
use Rattle.std.specs.Prelude.{ℕ, ◌^◌, nat_eq, Bool, true, not, ◌&&◌, ◌||◌, ◌==◌, List, [], codes, length, if◌then◌else◌}
use Rattle.std.specs.List.{ends_with}
use Rattle.tcp_stats.specs.declared.messages.StatsMessage.{StatsMessage}
use Rattle.tcp_stats.specs.declared.messages.StatsMessage.TheVariants.{AlreadyShutDown, Done, NoSuchFrontend}
use Rattle.tcp_watch.specs.declared.conversation.Conversation.{Conversation}
use Rattle.tcp_watch.specs.declared.conversation.Stay.{Stay}
use Rattle.tcp_watch.specs.declared.conversation.Stay.TheVariants.{Long, Short}
use Rattle.tcp_watch.specs.declared.conversation.TheConstants.{READ_BYTES}
use Rattle.tcp_watch.specs.declared.program.Shutdown.{Shutdown}
use Rattle.tcp_watch.specs.declared.program.Shutdown.TheVariants.{Already, Begun, NoSuch}

-- `prompt` is a switch, but for who may not stay
abbrev pub after_prompt : Stay → Conversation → Conversation
after_prompt Long talk = record { is_prompting = not talk.is_prompting; is_over = talk.is_over }
after_prompt Short talk = talk

-- who may not stay is read four times at most
abbrev pub most_reads : Stay → ℕ
most_reads Long = 2 ^ 40
most_reads Short = 4

abbrev pub after_quit : Conversation → Conversation
after_quit talk = record { is_prompting = talk.is_prompting; is_over = true }

-- what was read stops within a line, or where the buffer is full
abbrev pub is_cut : List ℕ → Bool
is_cut piece = length piece == READ_BYTES || not (ends_with nat_eq piece (codes "\n"))

-- behind the lines that came together all is said, unless the client is prompted for the next, or more of them is to come
abbrev pub after_lines : Bool → Conversation → Conversation
after_lines is_more_to_come talk = record { is_prompting = talk.is_prompting; is_over = talk.is_over || not (talk.is_prompting || is_more_to_come) }

abbrev pub mark : Conversation → List ℕ
mark talk = if talk.is_prompting && not talk.is_over then codes "> " else []

-- what the wish is answered that a frontend takes no more clients
abbrev pub message_of : Shutdown → StatsMessage
message_of Begun = Done
message_of Already = AlreadyShutDown
message_of NoSuch = NoSuchFrontend

mod Handed
mod HandedBus
mod Handle

mod Started
mod Waiting
mod Moved
mod Stepped
mod Deciding
mod Sending

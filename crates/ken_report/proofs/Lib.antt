mod Joined
mod Printed
